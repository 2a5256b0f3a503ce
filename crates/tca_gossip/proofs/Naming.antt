-- Names that are apart.
use Rattle.std.proofs.Common.{◌≡◌, ℕ, suc, zero, ◌+◌, ◌<◌, ◌≤◌, true, false, List, [], ◌∷◌, ◌++◌, ◌==◌, map, length, take, get_or, refl, sym, ap, ◌∙◌, subst, arith, inl, inr}
use Rattle.std.specs.List.{AllByRecursion, list_any}
use Rattle.std.proofs.lemmas.Bool.{eq-eqb, eqb-true, or_cases, or_parts, false≢true}
use Rattle.std.proofs.lemmas.List.{take_all}
use Rattle.tca_accounts.specs.Plans.{AccountPlan}
use Rattle.tca_gossip.specs.Replicas.{new_replica}
use Rattle.tca_gossip.specs.Coupling.{WorldView, AreDistinct, new_world}
use Rattle.tca_gossip.specs.Worlds.{with_name}
use Rattle.tca_gossip.proofs.TakeSteps.{take_next}

-- a name is among others exactly where not all of them differ from it
pub differ_all : (n : ℕ) (ns : List ℕ) → list_any (λ k. k == n) ns ≡ false → AllByRecursion (λ k. k ≡ n → ⊥) ns
differ_all n [] e = tt
differ_all n (k ∷ ns) e =
    let parts = or_parts (k == n) (list_any (λ k. k == n) ns) e in
    (λ same. false≢true (sym parts.0 ∙ eq-eqb k n same), differ_all n ns parts.1)

pub differ_none : (n : ℕ) (ns : List ℕ) → list_any (λ k. k == n) ns ≡ true → AllByRecursion (λ k. k ≡ n → ⊥) ns → ⊥
differ_none n [] e all = false≢true e
differ_none n (k ∷ ns) e all = elim (or_cases (k == n) (list_any (λ k. k == n) ns) e) [
  | inl same ↦ all.0 (eqb-true k n same)
  | inr more ↦ differ_none n ns more all.1
]

-- with one name in front
pub apart_there : (names : List ℕ) (n : ℕ) (ns : List ℕ) → names ≡ n ∷ ns → AreDistinct names → AreDistinct ns
apart_there names n ns e apart = (subst AreDistinct e apart).1

pub apart_back : (names : List ℕ) (n : ℕ) (ns : List ℕ) → names ≡ n ∷ ns → list_any (λ k. k == n) ns ≡ false → AreDistinct ns → AreDistinct names
apart_back names n ns e none apart = subst AreDistinct (sym e) (differ_all n ns none, apart)

pub twice : (names : List ℕ) (n : ℕ) (ns : List ℕ) → names ≡ n ∷ ns → list_any (λ k. k == n) ns ≡ true → AreDistinct names → ⊥
twice names n ns e found apart = differ_none n ns found (subst AreDistinct e apart).0

replicas_end : (plan : AccountPlan) (ns : List ℕ) (x : ℕ) → map (new_replica plan) (ns ++ x ∷ []) ≡ map (new_replica plan) ns ++ new_replica plan x ∷ []
replicas_end plan [] x = refl
replicas_end plan (n ∷ ns) x = ap (λ l. new_replica plan n ∷ l) (replicas_end plan ns x)

pub any_default : (xs : List ℕ) (i d e : ℕ) → i < length xs → get_or xs i d ≡ get_or xs i e
any_default [] i d e h = absurd (omega arith)
any_default (x ∷ xs) zero d e h = refl
any_default (x ∷ xs) (suc i) d e h = any_default xs i d e (omega arith)

pub all_names : (names : List ℕ) (i : ℕ) → length names ≤ i → take i names ≡ names
all_names names i h = take_all i names h

-- the replicas of the first names, and one more
pub names_more : (plan : AccountPlan) (names : List ℕ) (i name : ℕ) → i < length names → name ≡ get_or names i name → (w x : WorldView) → w ≡ new_world plan (take i names) → x ≡ with_name w name
    → x ≡ new_world plan (take (i + 1) names)
names_more plan names i name h is w x w-is x-is =
    x-is ∙ ap (λ z. with_name z name) w-is ∙ (λ c. record { plan = plan; replicas = sym (ap (map (new_replica plan)) (take_next names i name h is) ∙ replicas_end plan (take i names) name) c; sent = [] })
