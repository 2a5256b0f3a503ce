-- The account of a tally is one that a statement may have.
use Rattle.std.proofs.Common.{◌≡◌, ℕ, ◌+◌, ◌*◌, ◌≤◌, Bool, true, false, cond, eqb, List, [], ◌∷◌, filter, length, map, refl, sym, subst, ap, ◌∙◌, arith}
use Rattle.std.specs.List.{AllByRecursion}
use Rattle.std.specs.List.Sorted.{IsStrictlySortedBy}
use Rattle.std.specs.Ordering.{nat_cmp}
use Rattle.std.proofs.Math.Nat.{div-le_self, div-mul-le_self}
use Rattle.std.proofs.lemmas.Bool.{eq-eqb}
use Rattle.std.proofs.lemmas.Cmp.{nat_cmp_total}
use Rattle.std.proofs.lemmas.List.Sums.{sum_by-cons}
use Rattle.tca_join.specs.Sets.{in_order, put}
use Rattle.tca_join.proofs.Sets.{rises_in_order}
use Rattle.tca_report.specs.report.Reports.{InRange, PacketReport, most_octets, most_reports}
use Rattle.tca_meters.specs.Colours.{colour_number}
use Rattle.tca_meters.specs.declared.colour.Colour.{Colour}
use Rattle.tca_meters.specs.declared.colour.Colour.TheVariants.{Green, Yellow, Red}
use Rattle.tca_accounts.specs.Bills.{tally_of}
use Rattle.tca_accounts.specs.Plans.{PlannedAccount, is_name}
use Rattle.tca_accounts.specs.Spans.{period_of, spans_of, within}
use Rattle.tca_accounts.specs.Sums.{octets_in, sums_of}
use Rattle.tca_accounts.specs.declared.span.Span.{Span}
use Rattle.tca_accounts.proofs.Bills.{filter_few}
use Rattle.tca_accounts.proofs.Counting.{packets_few}
use Rattle.tca_figures.specs.Figures.{AllFit64, AreFigures, IsAccount, IsFigure, IsSpan, all_of, none, packets_of, plus}
use Rattle.tca_figures.specs.Sums.{AllFit, FitsAccount}
use Rattle.tca_figures.specs.declared.figures.ColourFigures.{ColourFigures}
use Rattle.tca_figures.proofs.InForm.{account_sum, all_cons}
use Rattle.tca_shards.specs.Statements.{account_figures, figures_of, span_figures}
use Rattle.tca_shards.proofs.AddedUp.{tally_append}
use Rattle.tca_shards.proofs.Figured.{account_added}

abbrev pub Pairs : Type 0
Pairs = List (PacketReport × Colour)

-- each report is in range
abbrev pub AreRanged : Pairs → Type 0
AreRanged pairs = AllByRecursion (λ (p : PacketReport × Colour). InRange p.0) pairs

-- at most so many octets
octets_most : (b : Bool) (octets : ℕ) → octets ≤ most_octets → cond b octets 0 ≤ most_octets
octets_most true octets h = h
octets_most false octets h = omega arith

pub octets_few : (c : Colour) (pairs : Pairs) → AreRanged pairs → octets_in c pairs ≤ most_octets * length pairs
octets_few c [] h = omega arith
octets_few c (p ∷ pairs) h =
    let f : PacketReport × Colour → ℕ = λ x. cond (eqb (colour_number x.1) (colour_number c)) x.0.octets 0 in
    let first = octets_most (eqb (colour_number p.1) (colour_number c)) p.0.octets h.0.octets in
    let rest = octets_few c pairs h.1 in
    omega (arith, sum_by-cons f p pairs, first, rest)

-- the sums of few reports have 64 bits
pub sums_fit : (pairs : Pairs) → length pairs ≤ most_reports → AreRanged pairs → AllFit64 (figures_of (sums_of pairs))
sums_fit pairs few h = (
  (omega (arith, octets_few Green pairs h, few), omega (arith, packets_few Green pairs, few)),
  (omega (arith, octets_few Yellow pairs h, few), omega (arith, packets_few Yellow pairs, few)),
  (omega (arith, octets_few Red pairs h, few), omega (arith, packets_few Red pairs, few)),
)

filter_ranged : (g : PacketReport × Colour → Bool) (pairs : Pairs) → AreRanged pairs → AreRanged (filter g pairs)
filter_ranged g [] h = tt
filter_ranged g (p ∷ pairs) h = here (g p) (filter_ranged g pairs h.1)
  where
    here : (b : Bool) → AreRanged (filter g pairs) → AreRanged (cond b (p ∷ filter g pairs) (filter g pairs))
    here true k = (h.0, k)
    here false k = k

module _ (period : ℕ) where
  abbrev keys : Pairs → List ℕ
  keys pairs = map (λ (p : PacketReport × Colour). period_of period p.0) pairs

  abbrev span_at : Pairs → ℕ → Span
  span_at pairs index = record { index = index; sums = sums_of (within period index pairs) }

  spans_fit : (pairs : Pairs) (ks : List ℕ) → length pairs ≤ most_reports → AreRanged pairs → AllFit (map span_figures (map (span_at pairs) ks))
  spans_fit pairs [] few h = tt
  spans_fit pairs (k ∷ ks) few h =
      let test : PacketReport × Colour → Bool = λ p. eqb (period_of period p.0) k in
      let fewer = filter_few test pairs in
      (sums_fit (within period k pairs) (omega (arith, fewer, few)) (filter_ranged test pairs h), spans_fit pairs ks few h)

  account_fits : (a : PlannedAccount) (pairs : Pairs) → length pairs ≤ most_reports → AreRanged pairs → FitsAccount (account_figures a (tally_of period pairs))
  account_fits a pairs few h = (sums_fit pairs few h, spans_fit pairs (in_order nat_cmp (keys pairs)) few h)

  -- one report
  whole : (r : PacketReport) (octets packets : ℕ) → InRange r → octets ≡ r.octets → packets ≡ 1 → IsFigure (record { octets = octets; packets = packets })
  whole r octets packets h o p = record {
    octets = let most = h.octets in omega (arith, o, most);
    packets = omega (arith, p);
    both = (λ e. let some = h.some in absurd (omega (arith, o, e, some)), λ e. absurd (omega (arith, p, e)));
  }

  nothing : (octets packets : ℕ) → octets ≡ 0 → packets ≡ 0 → IsFigure (record { octets = octets; packets = packets })
  nothing octets packets o p = record { octets = omega (arith, o); packets = omega (arith, p); both = (λ e. p, λ e. o) }

  figures_one : (r : PacketReport) (c : Colour) → InRange r → AreFigures (figures_of (sums_of ((r, c) ∷ [])))
  figures_one r Green h = record { green = whole r _ _ h (omega arith) (omega arith); yellow = nothing _ _ (omega arith) (omega arith); red = nothing _ _ (omega arith) (omega arith) }
  figures_one r Yellow h = record { green = nothing _ _ (omega arith) (omega arith); yellow = whole r _ _ h (omega arith) (omega arith); red = nothing _ _ (omega arith) (omega arith) }
  figures_one r Red h = record { green = nothing _ _ (omega arith) (omega arith); yellow = nothing _ _ (omega arith) (omega arith); red = whole r _ _ h (omega arith) (omega arith) }

  packets_one : (r : PacketReport) (c : Colour) → packets_of (figures_of (sums_of ((r, c) ∷ []))) ≡ 1
  packets_one r Green = omega arith
  packets_one r Yellow = omega arith
  packets_one r Red = omega arith

  spans_one : (p : PacketReport × Colour) → spans_of period (p ∷ []) ≡ record { index = period_of period p.0; sums = sums_of (p ∷ []) } ∷ []
  unfolding in_order put
  spans_one p =
      let k = period_of period p.0 in
      ap (λ (b : Bool). record { index = k; sums = sums_of (cond b (p ∷ []) []) } ∷ []) (eq-eqb k k refl)

  alone : (k : ℕ) (c : ColourFigures) → c ≡ all_of (record { index = k; sums = c } ∷ [])
  alone k c =
      let e : (n : ℕ) → n ≡ n + 0 = λ n. omega arith in
      let none_more : c ≡ plus c none = λ i. record {
        green = record { octets = e c.green.octets i; packets = e c.green.packets i };
        yellow = record { octets = e c.yellow.octets i; packets = e c.yellow.packets i };
        red = record { octets = e c.red.octets i; packets = e c.red.packets i };
      } in
      none_more ∙ sym (all_cons (record { index = k; sums = c }) [])

  rises_one : (k : ℕ) → IsStrictlySortedBy nat_cmp (k ∷ [])
  unfolding in_order put
  rises_one k = rises_in_order nat_cmp nat_cmp_total (k ∷ [])

  rises_none : IsStrictlySortedBy nat_cmp []
  unfolding in_order
  rises_none = rises_in_order nat_cmp nat_cmp_total []

  span_one : (p : PacketReport × Colour) → InRange p.0 → IsSpan period (span_figures (record { index = period_of period p.0; sums = sums_of (p ∷ []) }))
  span_one p h =
      let time = h.time in
      record {
        small = let under = div-le_self p.0.time period in omega (arith, under, time);
        begins = let under = div-mul-le_self p.0.time period in omega (arith, under, time);
        sums = figures_one p.0 p.1 h;
        some = let one = packets_one p.0 p.1 in omega (arith, one);
      }

  one_report : (a : PlannedAccount) (p : PacketReport × Colour) → is_name a.name ≡ true → InRange p.0 → IsAccount period (account_figures a (tally_of period (p ∷ [])))
  one_report a p named h =
      subst (λ (spans : List Span). IsAccount period (account_figures a (record { total = sums_of (p ∷ []); spans = spans }))) (sym (spans_one p)) (record {
        name = named;
        total = figures_one p.0 p.1 h;
        spans = (span_one p h, tt);
        ascend = rises_one (period_of period p.0);
        summed = alone (period_of period p.0) (figures_of (sums_of (p ∷ [])));
      })

  no_reports : (a : PlannedAccount) → is_name a.name ≡ true → IsAccount period (account_figures a (tally_of period []))
  unfolding in_order
  no_reports a named = record {
    name = named;
    total = record { green = nothing 0 0 refl refl; yellow = nothing 0 0 refl refl; red = nothing 0 0 refl refl };
    spans = tt;
    ascend = rises_none;
    summed = refl;
  }

  -- of any reports with their colours
  pub accounted : (a : PlannedAccount) (pairs : Pairs) → is_name a.name ≡ true → length pairs ≤ most_reports → AreRanged pairs → IsAccount period (account_figures a (tally_of period pairs))
  accounted a [] named few h = no_reports a named
  accounted a (p ∷ pairs) named few h =
      let both : account_figures a (tally_of period (p ∷ pairs)) ≡ _ = sym (ap (account_figures a) (tally_append period (p ∷ []) pairs)) ∙ account_added a (tally_of period (p ∷ [])) (tally_of period pairs) in
      subst (IsAccount period) (sym both) (account_sum period (account_figures a (tally_of period (p ∷ []))) (account_figures a (tally_of period pairs))
      (one_report a p named h.0) (accounted a pairs named (omega (arith, few)) h.1) (subst FitsAccount both (account_fits a (p ∷ pairs) few h)))
