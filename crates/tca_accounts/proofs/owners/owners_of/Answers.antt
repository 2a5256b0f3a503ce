use Rattle.std.proofs.lemmas.Grind.{common_steps}
use Rattle.std.proofs.Common.{◌≡◌, ℕ, ◌+◌, List, ◌∷◌, ◌++◌, [], map, drop, length, sym, ap, ◌∙◌, arith}
use Rattle.std.proofs.Math.Seq.{drop-length}
use Rattle.tca_accounts.specs.Plans.{PlannedAccount}
use Rattle.tca_accounts.specs.inside.Owners.{GoesOn, IsTwice, owned}
use Rattle.tca_accounts.proofs.Owning.{all_entered, cut, goes_on, not_all, with_rest}
use Rattle.tca_accounts.proofs.owners.owners_of.Goals as goal

abbrev numbered : ℕ → List (ℕ × ℕ) → List ((ℕ × ℕ) × ℕ)
numbered n ks = map (λ k. (k, n)) ks

pub loop-n-preserved : goal.loop-n-preserved
loop-n-preserved c =
    let accounts = c.args.accounts.now in
    let n = c.loop-n.n in
    let a = c.index-accounts-n.result in
    let old = c.loop-n.owners in
    let new = c.enter.new.owners in
    let rest = owned (n + 1) (drop (n + 1) accounts) in
    let pairs : c.deref.result.now ≡ a.pairs = c.deref.ensures.value ∙ ap (λ (x : PlannedAccount). x.pairs) c.account.view_is in
    let split : drop n accounts ≡ a ∷ drop (n + 1) accounts = cut accounts n a c.loop-n-test.true ∙ ap (λ (x : PlannedAccount). x ∷ drop (n + 1) accounts) (sym c.index-accounts-n.is) in
    let parts : owned n (drop n accounts) ≡ numbered n a.pairs ++ rest = ap (owned n) split in
    let entered : GoesOn old (numbered n a.pairs) new [] = rw (← pairs) (c.in_ok-enter.ensures.entered c.if-not-branch.false) in
    goes_on [] (owned 0 accounts) old (owned n (drop n accounts)) new rest c.loop-n.invariant (rw parts (with_rest old (numbered n a.pairs) new rest entered))

pub returns-then-not-branch : goal.returns-then-not-branch
returns-then-not-branch c =
    let accounts = c.args.accounts.now in
    let n = c.loop-n.n in
    let a = c.index-accounts-n.result in
    let old = c.loop-n.owners in
    let rest = owned (n + 1) (drop (n + 1) accounts) in
    let pairs : c.deref.result.now ≡ a.pairs = c.deref.ensures.value ∙ ap (λ (x : PlannedAccount). x.pairs) c.account.view_is in
    let split : drop n accounts ≡ a ∷ drop (n + 1) accounts = cut accounts n a c.loop-n-test.true ∙ ap (λ (x : PlannedAccount). x ∷ drop (n + 1) accounts) (sym c.index-accounts-n.is) in
    let parts : owned n (drop n accounts) ≡ numbered n a.pairs ++ rest = ap (owned n) split in
    let twice : IsTwice old (numbered n a.pairs) = rw (← pairs) (c.in_ok-enter.ensures.twice c.if-not-branch.true) in
    not_all accounts old (numbered n a.pairs) rest (rw (← parts) c.loop-n.invariant) twice

pub returns : goal.returns
returns c =
    let accounts = c.args.accounts.now in
    let n = c.loop-n.n in
    let at : n ≡ length accounts = omega (arith, c.loop-n-test.false, c.loop-n.auto.n-end) in
    let none : owned n (drop n accounts) ≡ [] = ap (owned n) (ap (λ (m : ℕ). drop m accounts) at ∙ drop-length accounts) in
    all_entered accounts c.loop-n.owners (owned n (drop n accounts)) none c.loop-n.invariant

pub returns-in_err-owners : goal.returns-in_err-owners
returns-in_err-owners c = grind (arith, common_steps)

pub returns-in_err-enter : goal.returns-in_err-enter
returns-in_err-enter c = grind (arith, common_steps)
