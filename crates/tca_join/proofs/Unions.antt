-- The laws of a union of sets.
use Rattle.std.proofs.Common.{◌≡◌, ◌≤◌, Bool, true, false, ◌||◌, List, [], ◌∷◌, ◌++◌, length, refl, sym, ap, ◌∙◌, arith}
use Rattle.std.specs.List.Sorted.{IsStrictlySortedBy}
use Rattle.std.specs.Cmp.{IsTotalOrder}
use Rattle.std.specs.declared.cmp.Ordering.{Ordering}
use Rattle.std.specs.declared.cmp.Ordering.TheVariants.{Less, Equal, Greater}
use Rattle.std.proofs.lemmas.Map.Lookups.{CmpEqualImpliesEq}
use Rattle.tca_join.specs.Sets.{by_order, has, put, in_order}
use Rattle.tca_join.proofs.Sets.{has-append, has-in_order, or_assoc}
use Rattle.tca_join.proofs.Merge.{in_order_alike, in_order_of_rising}

or_comm : (a b : Bool) → (a || b) ≡ (b || a)
or_comm true true = refl
or_comm true false = refl
or_comm false true = refl
or_comm false false = refl

or_same : (a : Bool) → (a || a) ≡ a
or_same true = refl
or_same false = refl

or_left-true : (a b : Bool) → a ≡ true → (a || b) ≡ true
or_left-true true b h = refl
or_left-true false b h = absurd cc

or_right-true : (a b : Bool) → b ≡ true → (a || b) ≡ true
or_right-true true b h = refl
or_right-true false b h = h

either_true : (a b : Bool) (P : Type 0) → (a ≡ true → P) → (b ≡ true → P) → (a || b) ≡ true → P
either_true true b P f g h = f refl
either_true false b P f g h = g h

module _ {K : Type 0} (R : K → K → Ordering) (o : IsTotalOrder R) (exact : CmpEqualImpliesEq R) where
  pub union_commutes : (a b : List K) → in_order R (a ++ b) ≡ in_order R (b ++ a)
  union_commutes a b = in_order_alike R o exact (a ++ b) (b ++ a) (λ q. has-append R o a b q ∙ or_comm (has R a q) (has R b q) ∙ sym (has-append R o b a q))

  pub union_associates : (a b c : List K) → in_order R (in_order R (a ++ b) ++ c) ≡ in_order R (a ++ in_order R (b ++ c))
  union_associates a b c = in_order_alike R o exact _ _ (λ q.
      has-append R o (in_order R (a ++ b)) c q
      ∙ ap (λ x. x || has R c q) (has-in_order R o (a ++ b) q ∙ has-append R o a b q)
      ∙ or_assoc (has R a q) (has R b q) (has R c q)
      ∙ sym (has-append R o a (in_order R (b ++ c)) q ∙ ap (λ x. has R a q || x) (has-in_order R o (b ++ c) q ∙ has-append R o b c q)))

  pub union_again : (a : List K) → IsStrictlySortedBy R a → in_order R (a ++ a) ≡ a
  union_again a s = in_order_alike R o exact (a ++ a) a (λ q. has-append R o a a q ∙ or_same (has R a q)) ∙ in_order_of_rising R o exact a s

  longer_put : (k : K) (xs : List K) → length xs ≤ length (put R k xs)
  unfolding put
  longer_put k [] = omega arith
  longer_put k (x ∷ xs) =
      elim (R k x) as (λ r. length (x ∷ xs) ≤ length (by_order r (k ∷ x ∷ xs) (x ∷ xs) (x ∷ put R k xs))) [
        | Less ↦ omega arith
        | Equal ↦ omega arith
        | Greater ↦ omega (arith, longer_put k xs)
      ]

  longer_front : (xs ys : List K) → length (in_order R ys) ≤ length (in_order R (xs ++ ys))
  unfolding in_order
  longer_front [] ys = omega arith
  longer_front (x ∷ xs) ys = omega (arith, longer_front xs ys, longer_put x (in_order R (xs ++ ys)))

  -- a union has at least as many members as each side
  pub union_longer : (a b : List K) → IsStrictlySortedBy R a → length a ≤ length (in_order R (a ++ b))
  union_longer a b s =
      omega (arith, longer_front b a, ap length (union_commutes a b), ap length (in_order_of_rising R o exact a s))

  -- a union has each side's members
  pub union_above : (a b : List K) (q : K) → (has R a q ≡ true → has R (in_order R (a ++ b)) q ≡ true) × (has R b q ≡ true → has R (in_order R (a ++ b)) q ≡ true)
  union_above a b q =
      let is : has R (in_order R (a ++ b)) q ≡ (has R a q || has R b q) = has-in_order R o (a ++ b) q ∙ has-append R o a b q in
      (λ h. is ∙ or_left-true (has R a q) (has R b q) h, λ h. is ∙ or_right-true (has R a q) (has R b q) h)

  -- and no others
  pub union_least : (a b c : List K) (q : K) → (has R a q ≡ true → has R c q ≡ true) → (has R b q ≡ true → has R c q ≡ true) → has R (in_order R (a ++ b)) q ≡ true → has R c q ≡ true
  union_least a b c q left right h = either_true (has R a q) (has R b q) (has R c q ≡ true) left right (sym (has-in_order R o (a ++ b) q ∙ has-append R o a b q) ∙ h)
