-- A list that is seen to rise, member by member.
use Rattle.std.proofs.Common.{◌≡◌, ℕ, zero, suc, ◌+◌, ◌-◌, ◌<◌, true, false, true≢false, List, [], ◌∷◌, length, get_or, take, sym, ap, ◌∙◌, arith, add-one}
use Rattle.std.specs.List.Sorted.{IsStrictlySortedBy}
use Rattle.std.specs.Ordering.{is_lt}
use Rattle.std.specs.Cmp.{IsTotalOrder}
use Rattle.std.specs.declared.cmp.Ordering.{Ordering}
use Rattle.std.specs.declared.cmp.Ordering.TheVariants.{Less}
use Rattle.std.proofs.lemmas.List.{get_or_default}
use Rattle.tca_log.proofs.OrderedRows.Parts.{above_less, lt_less}

module _ {K : Type 0} (R : K → K → Ordering) (o : IsTotalOrder R) where
  rises_next : (xs : List K) (i : ℕ) (d : K) → suc i < length xs → R (get_or xs i d) (get_or xs (suc i) d) ≡ Less → IsStrictlySortedBy R (take (suc i) xs) → IsStrictlySortedBy R (take (suc (suc i)) xs)
  unfolding IsStrictlySortedBy
  rises_next [] i d h less s = absurd (omega arith)
  rises_next (x ∷ []) i d h less s = absurd (omega arith)
  rises_next (x ∷ y ∷ ys) zero d h less s = ((less, tt), (tt, tt))
  rises_next (x ∷ y ∷ ys) (suc i) d h less s =
      let rest = rises_next (y ∷ ys) i d (omega arith) less s.1 in
      ((s.0.0, above_less R o x y (take (suc i) ys) s.0.0 rest.0), rest)

  -- one more, which comes after the one before it
  pub rises_more : (xs : List K) (i : ℕ) (x y : K) → 0 < i → i < length xs → x ≡ get_or xs (i - 1) x → y ≡ get_or xs i y → is_lt (R x y) ≡ true → IsStrictlySortedBy R (take i xs) → IsStrictlySortedBy R (take (i + 1) xs)
  rises_more xs zero x y some h is next less s = absurd (omega arith)
  rises_more xs (suc i) x y some h is next less s =
      let before : suc i - 1 ≡ i = omega arith in
      let here : get_or xs (suc i) x ≡ y = get_or_default xs (suc i) x y h ∙ sym next in
      let there : get_or xs i x ≡ x = ap (λ (n : ℕ). get_or xs n x) (sym before) ∙ sym is in
      rw add-one (rises_next xs i x h (rw (there, here) (lt_less (R x y) less)) s)

  pub rises_first : (xs : List K) → IsStrictlySortedBy R (take 1 xs)
  unfolding IsStrictlySortedBy
  rises_first [] = tt
  rises_first (x ∷ xs) = (tt, tt)

  next_less : (xs : List K) (i : ℕ) (d : K) → suc i < length xs → IsStrictlySortedBy R xs → R (get_or xs i d) (get_or xs (suc i) d) ≡ Less
  unfolding IsStrictlySortedBy
  next_less [] i d h s = absurd (omega arith)
  next_less (x ∷ []) i d h s = absurd (omega arith)
  next_less (x ∷ y ∷ ys) zero d h s = s.0.0
  next_less (x ∷ y ∷ ys) (suc i) d h s = next_less (y ∷ ys) i d (omega arith) s.1

  -- a member that doesn't come after the one before it
  pub falls : (xs : List K) (i : ℕ) (x y : K) → 0 < i → i < length xs → x ≡ get_or xs (i - 1) x → y ≡ get_or xs i y → is_lt (R x y) ≡ false → IsStrictlySortedBy R xs → ⊥
  falls xs zero x y some h is next not_less s = absurd (omega arith)
  falls xs (suc i) x y some h is next not_less s =
      let before : suc i - 1 ≡ i = omega arith in
      let here : get_or xs (suc i) x ≡ y = get_or_default xs (suc i) x y h ∙ sym next in
      let there : get_or xs i x ≡ x = ap (λ (n : ℕ). get_or xs n x) (sym before) ∙ sym is in
      let less : R x y ≡ Less = rw (there, here) at (next_less xs i x h s) in
      true≢false (sym (ap is_lt less) ∙ not_less)
