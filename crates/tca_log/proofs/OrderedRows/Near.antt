-- Whether a member of a rising list ties with one, as the members at a place and before it tell.
use Rattle.std.proofs.Common.{◌≡◌, ℕ, zero, suc, ◌<◌, ◌≤◌, ◌||◌, true, false, List, [], ◌∷◌, get_or, length, take, drop, refl, sym, ap, subst, ◌∙◌, arith}
use Rattle.std.specs.List.{AllByRecursion}
use Rattle.std.specs.List.Sorted.{IsStrictlySortedBy}
use Rattle.std.specs.Cmp.{IsTotalOrder}
use Rattle.std.specs.declared.cmp.Ordering.{Ordering}
use Rattle.std.specs.declared.cmp.Ordering.TheVariants.{Less, Equal}
use Rattle.std.proofs.lemmas.Bool.{or_right}
use Rattle.std.proofs.lemmas.List.{take-append-drop}
use Rattle.std.proofs.Math.ListN.{drop_of_length-le}
use Rattle.tca_join.specs.Sets.{has}
use Rattle.tca_join.proofs.Sets.{has-append}
use Rattle.tca_log.proofs.OrderedRows.Parts.{above_less, has_above, has_below}

-- what holds of all members holds of one
all_at : {K : Type 0} (P : K → Type 0) (x : K) (xs : List K) (i : ℕ) → i < length xs → x ≡ get_or xs i x → AllByRecursion P xs → P x
all_at P x [] i h is all = absurd (omega (arith, h))
all_at P x (y ∷ ys) zero h is all = subst P (sym is) all.0
all_at P x (y ∷ ys) (suc i) h is all = all_at P x ys i (omega (arith, h)) is all.1

module _ {K : Type 0} (R : K → K → Ordering) (o : IsTotalOrder R) where
  -- the members up to one that comes before k
  pub below_place : (k x : K) (xs : List K) (i : ℕ) → IsStrictlySortedBy R xs → i < length xs → x ≡ get_or xs i x → R x k ≡ Less → AllByRecursion (λ y. R y k ≡ Less) (take (suc i) xs)
  unfolding IsStrictlySortedBy
  below_place k x [] i s h is e = absurd (omega (arith, h))
  below_place k x (y ∷ ys) zero s h is e = (subst (λ z. R z k ≡ Less) is e, tt)
  below_place k x (y ∷ ys) (suc i) s h is e = (o.trans y x k (all_at (λ z. R y z ≡ Less) x ys i (omega (arith, h)) is s.0) e, below_place k x ys i s.1 (omega (arith, h)) is e)

  -- the members from one on that comes after k
  pub above_place : (k x : K) (xs : List K) (i : ℕ) → IsStrictlySortedBy R xs → i < length xs → x ≡ get_or xs i x → R k x ≡ Less → AllByRecursion (λ y. R k y ≡ Less) (drop i xs)
  unfolding IsStrictlySortedBy
  above_place k x [] i s h is e = absurd (omega (arith, h))
  above_place k x (y ∷ ys) zero s h is e = let first = subst (λ z. R k z ≡ Less) is e in (first, above_less R o k y ys first s.0)
  above_place k x (y ∷ ys) (suc i) s h is e = above_place k x ys i s.1 (omega (arith, h)) is e

  -- there are none
  pub above_end : (k : K) (xs : List K) (i : ℕ) → length xs ≤ i → AllByRecursion (λ y. R k y ≡ Less) (drop i xs)
  above_end k xs i h = subst (λ (l : List K). AllByRecursion (λ y. R k y ≡ Less) l) (sym (drop_of_length-le xs h)) tt

  -- one that ties
  pub has_place : (k x : K) (xs : List K) (i : ℕ) → i < length xs → x ≡ get_or xs i x → R k x ≡ Equal → has R xs k ≡ true
  unfolding has
  has_place k x [] i h is e = absurd (omega (arith, h))
  has_place k x (y ∷ ys) zero h is e = rw (← is, e) refl
  has_place k x (y ∷ ys) (suc i) h is e = or_right _ _ (has_place k x ys i (omega (arith, h)) is e)

  pub has_between : (k : K) (xs : List K) (i : ℕ) → AllByRecursion (λ y. R y k ≡ Less) (take i xs) → AllByRecursion (λ y. R k y ≡ Less) (drop i xs) → has R xs k ≡ false
  has_between k xs i low high =
      ap (λ (l : List K). has R l k) (sym (take-append-drop i xs))
      ∙ has-append R o (take i xs) (drop i xs) k
      ∙ (λ j. has_below R o k (take i xs) low j || has_above R o k (drop i xs) high j)
