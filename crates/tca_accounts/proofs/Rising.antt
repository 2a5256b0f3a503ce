-- Spans whose indexes are compared with the next.
use Rattle.std.proofs.Common.{◌≡◌, ℕ, ◌+◌, ◌-◌, ◌<◌, ◌≤◌, List, length, get_or, arith, inl, inr}
use Rattle.std.specs.Prelude.{map}
use Rattle.std.proofs.lemmas.Bool.{cases_lt}
use Rattle.std.proofs.lemmas.Cmp.{nat_cmp_total}
use Rattle.std.proofs.lemmas.List.{get_or-map, length-map}
use Rattle.std.proofs.lemmas.Map.Keys.{sorted_from_all_adjacent, below_from_sorted}
use Rattle.tca_join.proofs.Positions.{less_is}
use Rattle.tca_accounts.specs.Spans.{Ascend}
use Rattle.tca_accounts.specs.declared.span.Span.{Span}

module _ (spans : List Span) where
  abbrev index_at : ℕ → ℕ
  index_at k = get_or (map (λ s. s.index) spans) k 0

  -- each index up to a place is below the next
  abbrev pub RisesTo : ℕ → Type 0
  RisesTo i = (k : ℕ) → k + 1 < i → index_at k < index_at (k + 1)

  pub index_is : (k : ℕ) (s : Span) → k < length spans → index_at k ≡ (get_or spans k s).index
  index_is k s h = get_or-map (λ (s : Span). s.index) spans k s 0 h

  pub rises_more : (i : ℕ) → RisesTo i → (0 < i → index_at (i - 1) < index_at i) → RisesTo (i + 1)
  rises_more i so here k h = elim (cases_lt (k + 1) i) [
    | inl below ↦ so k below
    | inr above ↦ let last : k ≡ i - 1 = omega arith in let next : k + 1 ≡ i = omega arith in rw (next, last) (here (omega arith))
  ]

  pub all_rise : (i : ℕ) → length spans ≤ i → RisesTo i → Ascend spans
  all_rise i h so = sorted_from_all_adjacent nat_cmp_total (map (λ s. s.index) spans) 0 (λ k l.
      less_is (index_at k) (index_at (k + 1)) (so k (omega (arith, length-map spans (λ (s : Span). s.index)))))

  pub falls : (i : ℕ) → 0 < i → i < length spans → index_at i ≤ index_at (i - 1) → Ascend spans → ⊥
  falls i some h le rises =
      let below = below_from_sorted (map (λ s. s.index) spans) (i - 1) i 0 rises (omega arith) (omega (arith, length-map spans (λ (s : Span). s.index))) in
      omega arith
