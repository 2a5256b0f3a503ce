use Rattle.std.proofs.Common.{◌∙◌, length, sym, take}
use Rattle.std.proofs.lemmas.Result.{err_from_is_err_and}
use Rattle.tca_accounts.proofs.TermsOfValues.{made, none_made, term_fault, too_many}
use Rattle.tca_accounts.proofs.terms.with_terms.Goals as goal

pub returns-then-not-are_few : goal.returns-then-not-are_few
returns-then-not-are_few c = too_many c.args.account c.args.first.now c.args.values.now (sym c.are_few.ensures ∙ c.if-not-are_few.true)

pub returns-in_err-read_terms : goal.returns-in_err-read_terms
returns-in_err-read_terms c =
    let p = err_from_is_err_and c.from_residual.result c.from_residual.ensures.1 in
    rw (p.1, p.2) (term_fault c.args.account c.args.first.now c.args.values.now _ (sym c.are_few.ensures ∙ c.if-not-are_few.false) c.in_err-read_terms.ensures)

pub returns-in-Some : goal.returns-in-Some
returns-in-Some c =
    let vs = c.args.values.now in
    made c.args.account c.args.first.now vs (take (length vs) c.read_terms.new.slots) c.in-Some.meter (sym c.are_few.ensures ∙ c.if-not-are_few.false) c.in_ok-read_terms.ensures c.in-Some.ensures

pub returns-in-None : goal.returns-in-None
returns-in-None c =
    let vs = c.args.values.now in
    absurd (none_made c.args.account c.args.first.now vs (take (length vs) c.read_terms.new.slots) (sym c.are_few.ensures ∙ c.if-not-are_few.false) c.in_ok-read_terms.ensures c.in-None.ensures)
