-- The tally of reports one after the other is the sum of their tallies.
use Rattle.std.proofs.Common.{◌≡◌, ℕ, ◌+◌, Bool, true, false, ◌||◌, cond, eqb, List, [], ◌∷◌, ◌++◌, map, refl, sym, ap, ◌∙◌}
use Rattle.std.specs.List.{list_any}
use Rattle.std.specs.Ordering.{nat_cmp, eq_by_cmp}
use Rattle.std.specs.Cmp.{unsigned_tied}
use Rattle.std.proofs.lemmas.Bool.{eqb-true, eq-eqb, false≢true}
use Rattle.std.proofs.lemmas.Cmp.{nat_cmp_total}
use Rattle.std.proofs.lemmas.Map.Lookups.{exact_unsigned}
use Rattle.std.proofs.lemmas.List.{append-nil, map-append}
use Rattle.std.proofs.lemmas.List.Elements.{filter-append}
use Rattle.std.proofs.lemmas.List.Sums.{sum_by-append}
use Rattle.tca_join.specs.Sets.{has, in_order}
use Rattle.tca_join.proofs.Sets.{has-append, has-in_order}
use Rattle.tca_join.proofs.Merge.{in_order_alike}
use Rattle.tca_report.specs.report.Reports.{PacketReport}
use Rattle.tca_meters.specs.declared.colour.Colour.{Colour}
use Rattle.tca_meters.specs.declared.colour.Colour.TheVariants.{Green, Yellow, Red}
use Rattle.tca_meters.specs.Colours.{colour_number}
use Rattle.tca_accounts.specs.Sums.{sums_of, octets_in, packets_in}
use Rattle.tca_accounts.specs.Spans.{period_of, within, spans_of}
use Rattle.tca_accounts.specs.Metering.{no_sums}
use Rattle.tca_accounts.specs.Bills.{tally_of}
use Rattle.tca_accounts.specs.declared.span.Span.{Span}
use Rattle.tca_shards.specs.Shards.{added_numbers, added_sums, sums_at, indexes, added_spans, added_tallies}

abbrev Pairs : Type 0
Pairs = List (PacketReport × Colour)

octets_append : (c : Colour) (p q : Pairs) → octets_in c (p ++ q) ≡ octets_in c p + octets_in c q
octets_append c p q = sum_by-append (λ (x : PacketReport × Colour). cond (eqb (colour_number x.1) (colour_number c)) x.0.octets 0) p q

packets_append : (c : Colour) (p q : Pairs) → packets_in c (p ++ q) ≡ packets_in c p + packets_in c q
packets_append c p q = sum_by-append (λ (x : PacketReport × Colour). cond (eqb (colour_number x.1) (colour_number c)) 1 0) p q

pub sums_append : (p q : Pairs) → sums_of (p ++ q) ≡ added_sums (sums_of p) (sums_of q)
unfolding added_numbers
sums_append p q = λ i. record {
  octets = octets_append Green p q i ∷ octets_append Yellow p q i ∷ octets_append Red p q i ∷ [];
  packets = packets_append Green p q i ∷ packets_append Yellow p q i ∷ packets_append Red p q i ∷ [];
}

module _ (period : ℕ) where
  abbrev keys : Pairs → List ℕ
  keys pairs = map (λ (p : PacketReport × Colour). period_of period p.0) pairs

  abbrev span_at : Pairs → ℕ → Span
  span_at pairs index = record { index = index; sums = sums_of (within period index pairs) }

  indexes_of : (pairs : Pairs) (is : List ℕ) → indexes (map (span_at pairs) is) ≡ is
  indexes_of pairs [] = refl
  indexes_of pairs (i ∷ is) = ap (λ (l : List ℕ). i ∷ l) (indexes_of pairs is)

  none_within : (pairs : Pairs) (k : ℕ) → has nat_cmp (keys pairs) k ≡ false → sums_of (within period k pairs) ≡ no_sums
  unfolding has
  none_within [] k h = refl
  none_within (p ∷ pairs) k h =
      elim (eqb (period_of period p.0) k) as (λ b. eqb (period_of period p.0) k ≡ b → sums_of (cond b (p ∷ within period k pairs) (within period k pairs)) ≡ no_sums) [
        | true ↦ λ e. absurd (false≢true (sym h ∙ ap (λ b. b || list_any (eq_by_cmp nat_cmp k) (keys pairs)) (unsigned_tied k (period_of period p.0) ∙ eq-eqb k (period_of period p.0) (sym (eqb-true (period_of period p.0) k e)))))
        | false ↦ λ e. none_within pairs k (tail (eq_by_cmp nat_cmp k (period_of period p.0)) (list_any (eq_by_cmp nat_cmp k) (keys pairs)) h)
      ] refl
    where
      tail : (a b : Bool) → (a || b) ≡ false → b ≡ false
      tail true b h = absurd (false≢true (sym h))
      tail false b h = h

  at_any : (pairs : Pairs) (is : List ℕ) (k : ℕ) → sums_at (map (span_at pairs) is) k ≡ cond (has nat_cmp is k) (sums_of (within period k pairs)) no_sums
  unfolding has sums_at
  at_any pairs [] k = refl
  at_any pairs (x ∷ is) k =
      elim (eqb x k) as (λ b. eqb x k ≡ b → cond b (sums_of (within period x pairs)) (sums_at (map (span_at pairs) is) k) ≡ cond (eq_by_cmp nat_cmp k x || list_any (eq_by_cmp nat_cmp k) is) (sums_of (within period k pairs)) no_sums) [
        | true ↦ λ e. ap (λ (i : ℕ). sums_of (within period i pairs)) (eqb-true x k e)
            ∙ sym (ap (λ b. cond (b || list_any (eq_by_cmp nat_cmp k) is) (sums_of (within period k pairs)) no_sums) (unsigned_tied k x ∙ eq-eqb k x (sym (eqb-true x k e))))
        | false ↦ λ e. at_any pairs is k
            ∙ sym (ap (λ b. cond (b || list_any (eq_by_cmp nat_cmp k) is) (sums_of (within period k pairs)) no_sums) (unsigned_tied k x ∙ turned x k e))
      ] refl
    where
      turned : (x k : ℕ) → eqb x k ≡ false → eqb k x ≡ false
      turned x k e = elim (eqb k x) as (λ b. eqb k x ≡ b → b ≡ false) [
        | true ↦ λ f. absurd (false≢true (sym e ∙ eq-eqb x k (sym (eqb-true k x f))))
        | false ↦ λ f. refl
      ] refl

  -- what the spans have for any period
  sums_are : (pairs : Pairs) (k : ℕ) → sums_at (spans_of period pairs) k ≡ sums_of (within period k pairs)
  sums_are pairs k =
      at_any pairs (in_order nat_cmp (keys pairs)) k
      ∙ ap (λ b. cond b (sums_of (within period k pairs)) no_sums) (has-in_order nat_cmp nat_cmp_total (keys pairs) k)
      ∙ elim (has nat_cmp (keys pairs) k) as (λ b. has nat_cmp (keys pairs) k ≡ b → cond b (sums_of (within period k pairs)) no_sums ≡ sums_of (within period k pairs)) [
        | true ↦ λ e. refl
        | false ↦ λ e. sym (none_within pairs k e)
      ] refl

  ks_append : (p q : Pairs) → in_order nat_cmp (indexes (spans_of period p) ++ indexes (spans_of period q)) ≡ in_order nat_cmp (keys (p ++ q))
  ks_append p q =
      (λ i. in_order nat_cmp (indexes_of p (in_order nat_cmp (keys p)) i ++ indexes_of q (in_order nat_cmp (keys q)) i))
      ∙ in_order_alike nat_cmp nat_cmp_total exact_unsigned (in_order nat_cmp (keys p) ++ in_order nat_cmp (keys q)) (keys p ++ keys q) (λ k.
      has-append nat_cmp nat_cmp_total (in_order nat_cmp (keys p)) (in_order nat_cmp (keys q)) k
      ∙ (λ i. has-in_order nat_cmp nat_cmp_total (keys p) k i || has-in_order nat_cmp nat_cmp_total (keys q) k i)
      ∙ sym (has-append nat_cmp nat_cmp_total (keys p) (keys q) k))
      ∙ ap (in_order nat_cmp) (sym (map-append (λ (x : PacketReport × Colour). period_of period x.0) p q))

  sums_both : (p q : Pairs) (k : ℕ) → added_sums (sums_at (spans_of period p) k) (sums_at (spans_of period q) k) ≡ sums_of (within period k (p ++ q))
  sums_both p q k =
      (λ i. added_sums (sums_are p k i) (sums_are q k i))
      ∙ sym (ap sums_of (filter-append (λ (x : PacketReport × Colour). eqb (period_of period x.0) k) p q) ∙ sums_append (within period k p) (within period k q))

  spans_append : (p q : Pairs) → added_spans (spans_of period p) (spans_of period q) ≡ spans_of period (p ++ q)
  spans_append p q = λ i. map (λ k. record { index = k; sums = sums_both p q k i }) (ks_append p q i)

  pub tally_append : (p q : Pairs) → added_tallies (tally_of period p) (tally_of period q) ≡ tally_of period (p ++ q)
  tally_append p q = λ i. record { total = sym (sums_append p q) i; spans = spans_append p q i }

  pub nothing_right : (pairs : Pairs) → added_tallies (tally_of period pairs) (tally_of period []) ≡ tally_of period pairs
  nothing_right pairs = tally_append pairs [] ∙ ap (tally_of period) (append-nil pairs)

  pub nothing_left : (pairs : Pairs) → added_tallies (tally_of period []) (tally_of period pairs) ≡ tally_of period pairs
  nothing_left pairs = tally_append [] pairs
