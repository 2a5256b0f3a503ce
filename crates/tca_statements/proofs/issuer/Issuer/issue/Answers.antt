use Rattle.std.proofs.Common.{rules, ◌≡◌, ◌∙◌, ◌++◌, [], ◌∷◌, Some, None, sym, ap, refl}
use Rattle.std.specs.BTreeMap.{get_by}
use Rattle.tca_statements.specs.Issues.{Issued, entry_cmp, less, sum_of}
use Rattle.tca_statements.proofs.IssuedEntries.{issued_elsewhere, issued_more, issued_sum, next_is, on_err, same_entries}
use Rattle.tca_statements.proofs.issuer.Issuer.issue.Goals as goal

pub returns-in_err-make-clause-err : goal.returns-in_err-make-clause-err
returns-in_err-make-clause-err c =
    let inside = c.self.inside in
    let same = same_entries inside.entries (c.get_mut.follows.lender c.make.new.self) c.args.account c.args.span c.in-Some.amounts.now c.make.new.self c.in-Some.ensures.value c.in_err-make.ensures.err (c.get_mut.follows.holds c.make.new.self).0 in
    let all : record { accounts = inside.accounts; period = inside.period; entries = (c.get_mut.follows.lender c.make.new.self).entries } ≡ c.args.self.now = ap (λ es. record { accounts = inside.accounts; period = inside.period; entries = es }) same ∙ c.self.view_is in
    on_err c.from_residual.result all

pub returns-in-Some-clause-amount : goal.returns-in-Some-clause-amount
returns-in-Some-clause-amount c =
    let was = ap (λ (i : Issued). i.entries) (sym c.self.view_is) in
    next_is c.args.bill.now c.args.self.now c.args.account c.args.span c.self.inside.entries (Some c.in-Some.amounts.now) c.in_ok-make.field-0 c.due_now-due.result was c.in-Some.ensures.value c.in_ok-make.ensures.amount c.due_now-due.ensures.value

pub returns-in-Some-clause-listed : goal.returns-in-Some-clause-listed
returns-in-Some-clause-listed c =
    let was = ap (λ (i : Issued). i.entries) (sym c.self.view_is) in
    let updates = (c.get_mut.follows.holds c.make.new.self).3 (search rules) in
    issued_more c.args.self.now _ c.args.account c.args.span c.self.inside.entries (c.get_mut.follows.lender c.make.new.self) (Some c.in-Some.amounts.now) was c.in-Some.ensures.value refl c.make.new.self updates c.in_ok-make.field-0 c.in_ok-make.ensures.listed

pub returns-in-Some-clause-sum : goal.returns-in-Some-clause-sum
returns-in-Some-clause-sum c = issued_sum c.args.bill.now c.args.self.now _ c.args.account c.args.span c.in_ok-make.field-0 (returns-in-Some-clause-amount c) (returns-in-Some-clause-listed c)

pub returns-in-Some-clause-others : goal.returns-in-Some-clause-others
returns-in-Some-clause-others c =
    let was = ap (λ (i : Issued). i.entries) (sym c.self.view_is) in
    let updates = (c.get_mut.follows.holds c.make.new.self).3 (search rules) in
    issued_elsewhere c.args.self.now _ c.args.account c.args.span c.self.inside.entries (c.get_mut.follows.lender c.make.new.self) (Some c.in-Some.amounts.now) was c.in-Some.ensures.value refl c.make.new.self updates

pub returns-clause-amount : goal.returns-clause-amount
returns-clause-amount c =
    let was = ap (λ (i : Issued). i.entries) (sym c.self.view_is) in
    let first = c.in_ok-amount.ensures.amount ∙ ap (λ amounts. less c.due_now-due.result (sum_of amounts)) c.new-amounts.ensures in
    next_is c.args.bill.now c.args.self.now c.args.account c.args.span c.self.inside.entries None c.in_ok-amount.amount c.due_now-due.result was c.in_default.ensures.value first c.due_now-due.ensures.value

pub returns-clause-listed : goal.returns-clause-listed
returns-clause-listed c =
    let same = sym c.get_mut.follows.holds-at-none in
    let was = ap (λ (i : Issued). i.entries) (sym c.self.view_is) ∙ ap (λ m. m.entries) same in
    let looked = c.in_default.ensures.value ∙ ap (get_by (entry_cmp (c.args.account, c.args.span))) same in
    let listed = c.in_ok-amount.ensures.listed ∙ ap (λ amounts. amounts ++ c.in_ok-amount.amount ∷ []) c.new-amounts.ensures in
    issued_more c.args.self.now _ c.args.account c.args.span c.get_mut.follows.lender-at-none c.insert.new.self None was looked refl c.make-2.new.self c.in_ok-insert.ensures.updates c.in_ok-amount.amount listed

pub returns-clause-sum : goal.returns-clause-sum
returns-clause-sum c = issued_sum c.args.bill.now c.args.self.now _ c.args.account c.args.span c.in_ok-amount.amount (returns-clause-amount c) (returns-clause-listed c)

pub returns-clause-others : goal.returns-clause-others
returns-clause-others c =
    let same = sym c.get_mut.follows.holds-at-none in
    let was = ap (λ (i : Issued). i.entries) (sym c.self.view_is) ∙ ap (λ m. m.entries) same in
    let looked = c.in_default.ensures.value ∙ ap (get_by (entry_cmp (c.args.account, c.args.span))) same in
    issued_elsewhere c.args.self.now _ c.args.account c.args.span c.get_mut.follows.lender-at-none c.insert.new.self None was looked refl c.make-2.new.self c.in_ok-insert.ensures.updates
