-- What a binary search in an ascending list tells of the set.
use Rattle.std.proofs.Common.{◌≡◌, ℕ, zero, suc, ◌+◌, ◌<◌, ◌≤◌, true, false, ◌||◌, List, [], ◌∷◌, length, get_or, refl, sym, ap, subst, ◌∙◌, arith}
use Rattle.std.specs.List.{list_any, HoldsAt, insert}
use Rattle.std.specs.List.Sorted.{IsStrictlySortedBy, IsPartitionPoint, IsNonDecreasingBy}
use Rattle.std.specs.Ordering.{eq_by_cmp, is_eq, is_lt, ordering_reverse, ordering_index}
use Rattle.std.specs.Cmp.{IsTotalOrder}
use Rattle.std.specs.declared.cmp.Ordering.{Ordering}
use Rattle.std.specs.declared.cmp.Ordering.TheVariants.{Less, Equal, Greater}
use Rattle.std.proofs.lemmas.Map.Lookups.{CmpEqualImpliesEq}
use Rattle.std.proofs.lemmas.Map.Keys.{Less-from_sorted}
use Rattle.std.proofs.lemmas.List.Sorted.{searchable_from_sorted}
use Rattle.std.proofs.lemmas.Bool.{or_right}
use Rattle.tca_join.specs.Sets.{has, put}
use Rattle.tca_join.proofs.Sets.{has-put, only_one, rises_put}

module _ {K : Type 0} (R : K → K → Ordering) (o : IsTotalOrder R) where
  turned : (x y : K) (r : Ordering) → R x y ≡ r → R y x ≡ ordering_reverse r
  turned x y r e = o.antisymm y x ∙ ap ordering_reverse e

  -- one that is found at an index is a member
  has_at : (xs : List K) (i : ℕ) (k : K) → i < length xs → HoldsAt (λ y. R y k ≡ Equal) xs i → has R xs k ≡ true
  unfolding has
  has_at [] i k h at = absurd (omega arith)
  has_at (x ∷ xs) zero k h at = rw (turned x k Equal (at x)) refl
  has_at (x ∷ xs) (suc i) k h at = or_right _ _ (has_at xs i k (omega arith) at)

  -- where a member is put nothing changes
  pub put_again : CmpEqualImpliesEq R → (xs : List K) (k : K) → IsStrictlySortedBy R xs → has R xs k ≡ true → put R k xs ≡ xs
  unfolding has
  put_again exact xs k s there = only_one R o exact (put R k xs) xs (rises_put R o k xs s) s (λ q.
      has-put R o k xs q ∙ elim (R q k) as (λ r. R q k ≡ r → (is_eq r || list_any (eq_by_cmp R q) xs) ≡ list_any (eq_by_cmp R q) xs) [
        | Less ↦ λ e. refl
        | Equal ↦ λ e. sym (subst (λ y. list_any (eq_by_cmp R y) xs ≡ true) (sym (exact q k e)) there)
        | Greater ↦ λ e. refl
      ] refl)

  pub found_at : CmpEqualImpliesEq R → (xs : List K) (i : ℕ) (k : K) → IsStrictlySortedBy R xs → i < length xs → HoldsAt (λ y. R y k ≡ Equal) xs i → (has R xs k ≡ true) × (put R k xs ≡ xs)
  found_at exact xs i k s h at = let there = has_at xs i k h at in (there, put_again exact xs k s there)

  pub gap_at : (xs : List K) (i : ℕ) (k : K) → i ≤ length xs → IsPartitionPoint (λ y. R y k ≡ Less) (λ y. R y k ≡ Greater) xs i → (has R xs k ≡ false) × (put R k xs ≡ insert xs i k)
  unfolding has put
  gap_at [] zero k h gap = (refl, refl)
  gap_at [] (suc i) k h gap = absurd (omega arith)
  gap_at (x ∷ xs) zero k h gap =
      let above : R k x ≡ Less = turned x k Greater (gap.1 0 x (omega arith) (omega arith)) in
      let rest = gap_at xs zero k (omega arith) (λ j d _ l. absurd (omega arith), λ j d _ l. gap.1 (suc j) d (omega arith) (omega arith)) in
      (rw above (rest.0), rw above refl)
  gap_at (x ∷ xs) (suc i) k h gap =
      let below : R k x ≡ Greater = turned x k Less (gap.0 0 x (omega arith) (omega arith)) in
      let rest = gap_at xs i k (omega arith) (λ j d _ l. gap.0 (suc j) d (omega arith) (omega arith), λ j d m l. gap.1 (suc j) d (omega arith) (omega arith)) in
      (rw below (rest.0), rw below (ap (λ (ys : List K). x ∷ ys) rest.1))

  -- what the search asks of the list
  pub searchable : (xs : List K) (k : K) → IsStrictlySortedBy R xs → IsNonDecreasingBy (λ y. ordering_index (R y k)) xs
  searchable xs k s = searchable_from_sorted o (λ x. x) xs k (λ j d low high. ap is_lt (turned (get_or xs j d) (get_or xs (j + 1) d) Less (Less-from_sorted R xs j (j + 1) d s (omega arith) (omega arith))))
