-- Members of a list, and what holds of each two of them.
use Rattle.std.proofs.Common.{◌≡◌, ◌⊎◌, zero, suc, refl, List, [], ◌∷◌, sym, subst, arith, inl, inr}
use Rattle.std.proofs.lemmas.List.Elements.{recursion_from_All, All-from_recursion}
use Rattle.std.proofs.lemmas.List.Kept.{AllPairs-cons}
use Rattle.std.specs.List.{AllPairs, AllByRecursion}

module _ {X : Type 0} where
  abbrev pub Member : X → List X → Type 0
  Member x [] = ⊥
  Member x (y ∷ ys) = (x ≡ y) ⊎ Member x ys

  abbrev pub Pairwise : (X → X → Type 0) → List X → Type 0
  Pairwise R [] = Unit {0}
  Pairwise R (x ∷ xs) = AllByRecursion (R x) xs × Pairwise R xs

  pub at_member : (P : X → Type 0) (xs : List X) (x : X) → AllByRecursion P xs → Member x xs → P x
  at_member P [] x h m = absurd m
  at_member P (y ∷ ys) x h m = elim m [ inl e ↦ subst P (sym e) h.0 | inr m ↦ at_member P ys x h.1 m ]

  pub of_members : (P : X → Type 0) (xs : List X) → ((x : X) → Member x xs → P x) → AllByRecursion P xs
  of_members P [] f = tt
  of_members P (y ∷ ys) f = (f y (inl refl), of_members P ys (λ x m. f x (inr m)))

  pub pairwise : (R : X → X → Type 0) (xs : List X) → AllPairs R xs → Pairwise R xs
  pairwise R [] h = tt
  pairwise R (x ∷ xs) h = (
    recursion_from_All (R x) xs (λ k d within. h zero (suc k) d (omega arith) (omega (arith, within))),
    pairwise R xs (λ i j d lt within. h (suc i) (suc j) d (omega (arith, lt)) (omega (arith, within))),
  )

  pub from_pairwise : (R : X → X → Type 0) (xs : List X) → Pairwise R xs → AllPairs R xs
  from_pairwise R [] h = λ i j d lt within. absurd (omega (arith, within))
  from_pairwise R (x ∷ xs) h = AllPairs-cons R x xs (All-from_recursion (R x) xs h.0) (from_pairwise R xs h.1)

  -- any two members, where R holds both ways and of each member with itself
  pub any_two : (R : X → X → Type 0) → ((x : X) → R x x) → ((x y : X) → R x y → R y x) → (xs : List X) (x y : X) → Pairwise R xs → Member x xs → Member y xs → R x y
  any_two R same back [] x y h m n = absurd m
  any_two R same back (z ∷ zs) x y h m n = elim m [
    | inl e ↦ elim n [
      | inl f ↦ subst (λ t. R t y) (sym e) (subst (R z) (sym f) (same z))
      | inr n ↦ subst (λ t. R t y) (sym e) (at_member (R z) zs y h.0 n)
    ]
    | inr m ↦ elim n [
      | inl f ↦ back y x (subst (λ t. R t x) (sym f) (at_member (R z) zs x h.0 m))
      | inr n ↦ any_two R same back zs x y h.1 m n
    ]
  ]
