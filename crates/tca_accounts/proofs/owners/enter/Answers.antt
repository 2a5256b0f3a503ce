use Rattle.std.proofs.lemmas.Grind.{common_steps}
use Rattle.std.proofs.Common.{◌≡◌, ℕ, ◌+◌, ◌∷◌, map, drop, None, is_none, sym, ap, subst, ◌∙◌, false, slice_index_or, arith}
use Rattle.tca_accounts.specs.inside.Owners.{Gains, owner_in}
use Rattle.tca_accounts.proofs.Owning.{cut, from_some, from_none, goes_on, stands, step}
use Rattle.tca_accounts.proofs.owners.enter.Goals as goal

pub loop-pair-preserved : goal.loop-pair-preserved
loop-pair-preserved c =
    let pairs = c.args.pairs.now in
    let k0 : ℕ × ℕ = (0, 0) in
    let i = c.loop-pair.pair-index in
    let k : ℕ × ℕ = slice_index_or pairs i k0 in
    let f : ℕ × ℕ → (ℕ × ℕ) × ℕ = λ k. (k, c.args.account) in
    let old = c.loop-pair.owners in
    let new = c.insert.new.self in
    let none : owner_in old k ≡ None = ap (owner_in old) (sym c.new.ensures) ∙ from_none (owner_in old c.new.result) (sym c.in_ok-insert.ensures.new ∙ c.if-not-branch.false) in
    let gains : Gains old k c.args.account new = subst (λ (p : ℕ × ℕ). Gains old p c.args.account new) c.new.ensures c.in_ok-insert.ensures.gains in
    let split : drop i pairs ≡ k ∷ drop (i + 1) pairs = cut pairs i k0 c.loop-pair-test.true in
    goes_on c.args.owners.now (map f pairs) old (map f (drop i pairs)) new (map f (drop (i + 1) pairs)) c.loop-pair.invariant
    (rw split (step old new k c.args.account gains none (map f (drop (i + 1) pairs))))

pub returns-then-not-branch-clause-twice : goal.returns-then-not-branch-clause-twice
returns-then-not-branch-clause-twice c e more =
    let pairs = c.args.pairs.now in
    let k0 : ℕ × ℕ = (0, 0) in
    let i = c.loop-pair.pair-index in
    let k : ℕ × ℕ = slice_index_or pairs i k0 in
    let f : ℕ × ℕ → (ℕ × ℕ) × ℕ = λ k. (k, c.args.account) in
    let old = c.loop-pair.owners in
    let there : is_none (owner_in old k) ≡ false = ap (λ (p : ℕ × ℕ). is_none (owner_in old p)) (sym c.new.ensures) ∙ sym c.in_ok-insert.ensures.new ∙ c.if-not-branch.true in
    let split : drop i pairs ≡ k ∷ drop (i + 1) pairs = cut pairs i k0 c.loop-pair-test.true in
    let x = from_some (owner_in old k) there in
    c.loop-pair.invariant.are_new more ∙ rw split (stands old k c.args.account x.0 (map f (drop (i + 1) pairs)) more x.1)

pub returns-in_err-insert-clause-entered : goal.returns-in_err-insert-clause-entered
returns-in_err-insert-clause-entered c = grind (arith, common_steps)

pub returns-in_err-insert-clause-twice : goal.returns-in_err-insert-clause-twice
returns-in_err-insert-clause-twice c = grind (arith, common_steps)

pub returns-then-not-branch-clause-entered : goal.returns-then-not-branch-clause-entered
returns-then-not-branch-clause-entered c = grind (arith, common_steps)

pub returns-clause-entered : goal.returns-clause-entered
returns-clause-entered c = grind (arith, common_steps)

pub returns-clause-twice : goal.returns-clause-twice
returns-clause-twice c = grind (arith, common_steps)
