-- A set as a list of which all that matters is in the middle.
use Rattle.std.proofs.Common.{◌≡◌, ℕ, zero, suc, ◌<◌, Bool, true, false, not, ◌||◌, cond, List, [], ◌∷◌, ◌++◌, length, filter, refl, sym, ap, ◌∙◌, arith}
use Rattle.std.specs.List.{list_any, AllByRecursion, HoldsAt, remove}
use Rattle.std.specs.List.Sorted.{IsStrictlySortedBy}
use Rattle.std.specs.Ordering.{eq_by_cmp, is_eq, is_lt, ordering_reverse}
use Rattle.std.specs.Cmp.{IsTotalOrder, alike_right}
use Rattle.std.specs.declared.cmp.Ordering.{Ordering}
use Rattle.std.specs.declared.cmp.Ordering.TheVariants.{Less, Equal, Greater}
use Rattle.std.proofs.lemmas.List.Elements.{filter-append}
use Rattle.tca_join.specs.Sets.{by_order, has, put}
use Rattle.tca_log.specs.inside.Chunks.{starts_after}
use Rattle.tca_log.specs.Rows.Ordered.{without}

pub or_parts : (a b : Bool) → (a || b) ≡ false → (a ≡ false) × (b ≡ false)
or_parts true b h = absurd cc
or_parts false b h = (refl, h)

pub lt_less : (r : Ordering) → is_lt r ≡ true → r ≡ Less
lt_less Less e = refl
lt_less Equal e = absurd cc
lt_less Greater e = absurd cc

-- a fact about each, of the parts
pub all_front : {K : Type 0} (P : K → Type 0) (xs ys : List K) → AllByRecursion P (xs ++ ys) → AllByRecursion P xs
all_front P [] ys h = tt
all_front P (x ∷ xs) ys h = (h.0, all_front P xs ys h.1)

pub all_back : {K : Type 0} (P : K → Type 0) (xs ys : List K) → AllByRecursion P (xs ++ ys) → AllByRecursion P ys
all_back P [] ys h = h
all_back P (x ∷ xs) ys h = all_back P xs ys h.1

module _ {K : Type 0} (R : K → K → Ordering) (o : IsTotalOrder R) where
  pub turned : (x y : K) (r : Ordering) → R x y ≡ r → R y x ≡ ordering_reverse r
  turned x y r e = o.antisymm y x ∙ ap ordering_reverse e

  pub rises_front : (xs ys : List K) → IsStrictlySortedBy R (xs ++ ys) → IsStrictlySortedBy R xs
  unfolding IsStrictlySortedBy
  rises_front [] ys h = tt
  rises_front (x ∷ xs) ys h = (all_front _ xs ys h.0, rises_front xs ys h.1)

  pub rises_back : (xs ys : List K) → IsStrictlySortedBy R (xs ++ ys) → IsStrictlySortedBy R ys
  unfolding IsStrictlySortedBy
  rises_back [] ys h = h
  rises_back (x ∷ xs) ys h = rises_back xs ys h.1

  pub put_past : (k : K) (xs ys : List K) → AllByRecursion (λ x. R x k ≡ Less) xs → put R k (xs ++ ys) ≡ xs ++ put R k ys
  unfolding put
  put_past k [] ys h = refl
  put_past k (x ∷ xs) ys h = rw (turned x k Less h.0) (ap (λ (l : List K). x ∷ l) (put_past k xs ys h.1))

  pub put_before : (k : K) (xs ys : List K) → AllByRecursion (λ x. R k x ≡ Less) ys → put R k (xs ++ ys) ≡ put R k xs ++ ys
  unfolding put
  put_before k [] [] h = refl
  put_before k [] (y ∷ ys) h = rw (h.0) refl
  put_before k (x ∷ xs) ys h =
      elim (R k x) as (λ r. by_order r (k ∷ x ∷ (xs ++ ys)) (x ∷ (xs ++ ys)) (x ∷ put R k (xs ++ ys)) ≡ by_order r (k ∷ x ∷ xs) (x ∷ xs) (x ∷ put R k xs) ++ ys) [
        | Less ↦ refl
        | Equal ↦ refl
        | Greater ↦ ap (λ (l : List K). x ∷ l) (put_before k xs ys h)
      ]

  pub has_below : (k : K) (xs : List K) → AllByRecursion (λ x. R x k ≡ Less) xs → has R xs k ≡ false
  unfolding has
  has_below k [] h = refl
  has_below k (x ∷ xs) h = rw (turned x k Less h.0) (has_below k xs h.1)

  pub has_above : (k : K) (xs : List K) → AllByRecursion (λ x. R k x ≡ Less) xs → has R xs k ≡ false
  unfolding has
  has_above k [] h = refl
  has_above k (x ∷ xs) h = rw (h.0) (has_above k xs h.1)

  pub without_absent : (k : K) (xs : List K) → has R xs k ≡ false → without R k xs ≡ xs
  unfolding has without
  without_absent k [] h = refl
  without_absent k (x ∷ xs) h =
      let parts = or_parts (eq_by_cmp R k x) (list_any (eq_by_cmp R k) xs) h in
      ap (λ b. cond (not b) (x ∷ filter (λ y. not (eq_by_cmp R k y)) xs) (filter (λ y. not (eq_by_cmp R k y)) xs)) parts.0 ∙ ap (λ (l : List K). x ∷ l) (without_absent k xs parts.1)

  pub without_append : (k : K) (xs ys : List K) → without R k (xs ++ ys) ≡ without R k xs ++ without R k ys
  unfolding without
  without_append k xs ys = filter-append (λ x. not (eq_by_cmp R k x)) xs ys

  -- three parts, the first below k and the last above it
  pub put_middle : (k : K) (xs ys zs : List K) → AllByRecursion (λ x. R x k ≡ Less) xs → AllByRecursion (λ x. R k x ≡ Less) zs → put R k (xs ++ (ys ++ zs)) ≡ xs ++ (put R k ys ++ zs)
  put_middle k xs ys zs low high = put_past k xs (ys ++ zs) low ∙ ap (λ (l : List K). xs ++ l) (put_before k ys zs high)

  pub without_middle : (k : K) (xs ys zs : List K) → AllByRecursion (λ x. R x k ≡ Less) xs → AllByRecursion (λ x. R k x ≡ Less) zs → without R k (xs ++ (ys ++ zs)) ≡ xs ++ (without R k ys ++ zs)
  without_middle k xs ys zs low high =
      without_append k xs (ys ++ zs) ∙ ap (λ (l : List K). l ++ without R k (ys ++ zs)) (without_absent k xs (has_below k xs low))
      ∙ ap (λ (l : List K). xs ++ l) (without_append k ys zs ∙ ap (λ (l : List K). without R k ys ++ l) (without_absent k zs (has_above k zs high)))

  -- all before a member of a rising list is below what the member is not above
  pub below_since : (k y : K) (xs ys : List K) → IsStrictlySortedBy R (xs ++ (y ∷ ys)) → is_lt (R k y) ≡ false → AllByRecursion (λ x. R x k ≡ Less) xs
  unfolding IsStrictlySortedBy
  below_since k y [] ys h e = tt
  below_since k y (x ∷ xs) ys h e =
      let lower : R x y ≡ Less = (all_back (λ z. R x z ≡ Less) xs (y ∷ ys) h.0).0 in (
        elim (R k y) as (λ r. R k y ≡ r → is_lt r ≡ false → R x k ≡ Less) [
          | Less ↦ λ s n. absurd cc
          | Equal ↦ λ s n. alike x s ∙ lower
          | Greater ↦ λ s n. o.trans x y k lower (turned k y Greater s)
        ] refl e,
        below_since k y xs ys h.1 e,
      )
    where
      alike : (x : K) → R k y ≡ Equal → R x k ≡ R x y
      alike x s = alike_right o k y x s

  pub above_less : (k x : K) (zs : List K) → R k x ≡ Less → AllByRecursion (λ y. R x y ≡ Less) zs → AllByRecursion (λ y. R k y ≡ Less) zs
  above_less k x [] f g = tt
  above_less k x (z ∷ zs) f g = (o.trans k x z f g.0, above_less k x zs f g.1)

  -- a rising list is above what its first member is above
  pub above_since : (k : K) (ys : List K) → IsStrictlySortedBy R ys → starts_after R k ys ≡ true → AllByRecursion (λ x. R k x ≡ Less) ys
  unfolding IsStrictlySortedBy
  above_since k [] h e = tt
  above_since k (y ∷ ys) h e =
      let first : R k y ≡ Less = lt_less (R k y) e in
      (first, above_less k y ys first h.0)

  -- where a member of a rising list ties with k, those past it come after k
  pub above_tied : (k x : K) (zs : List K) → R x k ≡ Equal → AllByRecursion (λ y. R x y ≡ Less) zs → AllByRecursion (λ y. R k y ≡ Less) zs
  above_tied k x [] t g = tt
  above_tied k x (z ∷ zs) t g = (sym (o.congr x k z t) ∙ g.0, above_tied k x zs t g.1)

  -- and each before it comes before k
  pub below_tied : (k x : K) (zs : List K) (j : ℕ) → AllByRecursion (λ y. R x y ≡ Less) zs → j < length zs → HoldsAt (λ y. R y k ≡ Equal) zs j → R x k ≡ Less
  below_tied k x [] j g l t = absurd (omega arith)
  below_tied k x (z ∷ zs) zero g l t = sym (alike_right o z k x (t z)) ∙ g.0
  below_tied k x (z ∷ zs) (suc j) g l t = below_tied k x zs j g.1 (omega arith) t

  -- what is found at a place, taken out
  pub without_at : (k : K) (xs : List K) (i : ℕ) → IsStrictlySortedBy R xs → i < length xs → HoldsAt (λ y. R y k ≡ Equal) xs i → without R k xs ≡ remove xs i
  unfolding IsStrictlySortedBy without
  without_at k [] i s h at = absurd (omega arith)
  without_at k (x ∷ xs) zero s h at =
      let tied : R x k ≡ Equal = at x in
      let rest : without R k xs ≡ xs = without_absent k xs (has_above k xs (above_tied k x xs tied s.0)) in
      ap (λ r. cond (not (is_eq r)) (x ∷ filter (λ y. not (eq_by_cmp R k y)) xs) (filter (λ y. not (eq_by_cmp R k y)) xs)) (turned x k Equal tied) ∙ rest
  without_at k (x ∷ xs) (suc i) s h at =
      let lower : R x k ≡ Less = below_tied k x xs i s.0 (omega arith) at in
      ap (λ r. cond (not (is_eq r)) (x ∷ filter (λ y. not (eq_by_cmp R k y)) xs) (filter (λ y. not (eq_by_cmp R k y)) xs)) (turned x k Less lower) ∙ ap (λ (l : List K). x ∷ l) (without_at k xs i s.1 (omega arith) at)
