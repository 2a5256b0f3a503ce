-- A binary search among spans whose indexes ascend.
use Rattle.std.proofs.Common.{◌≡◌, ◌∙◌, ◌<◌, ◌≤◌, ℕ, List, [], None, inl, inr, Bool, false, eqb, length, map, get_or, slice_get, sym, ap, arith}
use Rattle.std.proofs.lemmas.Bool.Decides.{nat_tests}
use Rattle.std.proofs.lemmas.Bool.{cases_lt}
use Rattle.std.proofs.lemmas.Cmp.{ranked}
use Rattle.std.proofs.lemmas.Option.{slice_get_past}
use Rattle.std.proofs.lemmas.List.{get_or-map, length-map}
use Rattle.std.proofs.lemmas.List.Sorted.{IsNonDecreasingBy-from_default}
use Rattle.std.proofs.lemmas.List.Folds.{find_at}
use Rattle.std.proofs.lemmas.List.Sums.{position_or_len_is}
use Rattle.std.proofs.lemmas.Map.Keys.{below_from_sorted}
use Rattle.std.specs.List.{HoldsAt, find, position_or_len}
use Rattle.std.specs.List.Sorted.{IsNonDecreasingBy, IsPartitionPoint}
use Rattle.std.specs.Ordering.{nat_cmp, ordering_index}
use Rattle.std.specs.declared.cmp.Ordering.TheVariants.{Less, Equal, Greater}
use Rattle.tca_accounts.specs.Spans.{Ascend}
use Rattle.tca_accounts.specs.declared.span.Span.{Span}

no_span : Span
no_span = record { index = 0; sums = record { octets = []; packets = [] } }

module _ (spans : List Span) (up : Ascend spans) (n : ℕ) where
  abbrev pub has_index : Span → Bool
  has_index s = eqb s.index n

  -- an earlier span has a lower index
  lower : (i j : ℕ) → i < j → j < length spans → (get_or spans i no_span).index < (get_or spans j no_span).index
  lower i j before inside =
      let indexes = map (λ (s : Span). s.index) spans in
      let within : j < length indexes = rw (length-map spans (λ (s : Span). s.index)) inside in
      let low = below_from_sorted indexes i j no_span.index up before within in
      omega (arith, low, get_or-map (λ (s : Span). s.index) spans i no_span no_span.index (omega arith), get_or-map (λ (s : Span). s.index) spans j no_span no_span.index inside)

  -- so the comparisons with n rise
  comparisons_rise : IsNonDecreasingBy (λ s. ordering_index (nat_cmp s.index n)) spans
  comparisons_rise = IsNonDecreasingBy-from_default (λ s. ordering_index (nat_cmp s.index n)) spans no_span (λ i j le inside.
      let rise : (get_or spans i no_span).index ≤ (get_or spans j no_span).index = grind (arith, lower i j, λ (same : i ≡ j). ap (λ k. (get_or spans k no_span).index) same) in
      grind (arith, nat_tests))

  -- what the search finds is the only one
  pub found : (at : ℕ) → at < length spans → HoldsAt (λ s. nat_cmp s.index n ≡ Equal) spans at → find has_index spans ≡ slice_get spans at
  found at inside equal =
      let here : (get_or spans at no_span).index ≡ n = ranked _ n _ (sym (equal no_span)) in
      let place : position_or_len has_index spans ≡ at = position_or_len_is has_index spans at no_span (omega arith) (λ k before. grind (arith, nat_tests, lower k at before inside, here)) (λ h. grind (arith, nat_tests, here)) in
      find_at has_index spans ∙ ap (slice_get spans) place

  -- and where it finds none there is none
  pub missing : (at : ℕ) → (IsNonDecreasingBy (λ s. ordering_index (nat_cmp s.index n)) spans → IsPartitionPoint (λ s. nat_cmp s.index n ≡ Less) (λ s. nat_cmp s.index n ≡ Greater) spans at) → find has_index spans ≡ None
  missing at parted =
      let parts = parted comparisons_rise in
      let other : (k : ℕ) → k < length spans → eqb (get_or spans k no_span).index n ≡ false = λ k inside. elim (cases_lt k at) [
        | inl before ↦ (let apart = ranked (get_or spans k no_span).index n _ (sym (parts.0 k no_span (omega arith) before)) in grind (arith, nat_tests, apart))
        | inr behind ↦ (let apart = ranked (get_or spans k no_span).index n _ (sym (parts.1 k no_span behind inside)) in grind (arith, nat_tests, apart))
      ] in
      let place : position_or_len has_index spans ≡ length spans = position_or_len_is has_index spans (length spans) no_span (omega arith) other (λ h. absurd (omega arith)) in
      find_at has_index spans ∙ ap (slice_get spans) place ∙ slice_get_past spans (length spans) (omega arith)
