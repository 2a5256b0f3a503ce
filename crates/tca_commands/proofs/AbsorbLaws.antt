-- What a shared replica of a bill absorbs of the others, one after another.
use Rattle.std.proofs.Common.{◌≡◌, ◌∙◌, ◌+◌, ℕ, zero, suc, List, [], ◌∷◌, ◌++◌, refl, sym, ap, subst, arith}
use Rattle.std.specs.List.{All, range_with_len}
use Rattle.std.proofs.lemmas.List.Elements.{All-head, All-tail}
use Rattle.tca_gossip.specs.Replicas.{ReplicaView}
use Rattle.tca_ingest.specs.Passes.{PassView}
use Rattle.tca_accounts.specs.Plans.{AccountPlan}
use Rattle.tca_ingest.specs.Closed.{ClosedView}
use Rattle.tca_commands.specs.inside.Absorbs.{Absorbs, AbsorbsEach, AreJoined}

-- each of these, and behind them one more
pub one_more : (vs : List ReplicaView) (v : ReplicaView) (a b c : PassView) → AbsorbsEach vs a b → Absorbs v b c → AbsorbsEach (vs ++ v ∷ []) a c
one_more [] v a b c same more = (c, subst (λ p. Absorbs v p c) same more, refl)
one_more (w ∷ vs) v a b c (between, first, rest) more = (between, first, one_more vs v between b c rest more)

-- a pass keeps its number
pub same_number : (v : ReplicaView) (a b : PassView) → Absorbs v a b → b.number ≡ a.number
same_number v a b absorbs = ap (λ p. p.number) absorbs.calls

-- one more number
pub range_more : (a n : ℕ) → range_with_len a (suc n) ≡ range_with_len a n ++ (a + n) ∷ []
range_more a zero = let same : a + 0 ≡ a = omega arith in rw same refl
range_more a (suc n) = let same : a + suc n ≡ a + 1 + n = omega arith in rw same (ap (λ ns. a ∷ ns) (range_more (a + 1) n))

-- what holds of all of a list holds of its last
pub all_last : {X : Type 0} (P : X → Type 0) (xs : List X) (x : X) → All P (xs ++ x ∷ []) → P x
all_last P [] x all = All-head P x [] all
all_last P (y ∷ ys) x all = all_last P ys x (All-tail P y (ys ++ x ∷ []) all)

-- two lists that are one have one last item
same_last : {X : Type 0} (xs ys : List X) (x y : X) → xs ++ x ∷ [] ≡ ys ++ y ∷ [] → x ≡ y
same_last [] [] x y e = cc e
same_last [] (b ∷ []) x y e = absurd cc
same_last [] (b ∷ c ∷ ys) x y e = absurd cc
same_last (a ∷ []) [] x y e = absurd cc
same_last (a ∷ c ∷ xs) [] x y e = absurd cc
same_last (a ∷ xs) (b ∷ ys) x y e = let rest : xs ++ x ∷ [] ≡ ys ++ y ∷ [] = cc e in same_last xs ys x y rest

-- the last of a bill's replicas has its plan
pub last_plan : (plan : AccountPlan) (n : ℕ) (all before : List ClosedView) (x : ClosedView) → AreJoined plan n all → all ≡ before ++ x ∷ [] → x.replica.plan ≡ plan
last_plan plan n all before x joined is = ap (λ (c : ClosedView). c.replica.plan) (same_last before _ x joined.first (sym is ∙ joined.agreed.each)) ∙ joined.right.plan_is
