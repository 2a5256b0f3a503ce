-- An account with one more report.
use Rattle.std.proofs.Common.{◌≡◌, ℕ, ◌<◌, ◌≤◌, ◌/◌, List, [], ◌∷◌, ◌++◌, Option, Some, None, refl, sym, ap, ◌∙◌}
use Rattle.std.specs.Prelude.{MatchOption}
use Rattle.std.proofs.Math.Nat.{div-mul-le_self, le_trans}
use Rattle.std.proofs.lemmas.Nat.{le-div}
use Rattle.std.proofs.lemmas.List.{append_assoc}
use Rattle.tca_report.specs.report.Reports.{PacketReport}
use Rattle.tca_meters.specs.declared.colour.Colour.{Colour}
use Rattle.tca_meters.specs.Packets.{Rule, coloured}
use Rattle.tca_accounts.specs.Sums.{with_packet}
use Rattle.tca_accounts.specs.Spans.{period_of}
use Rattle.tca_accounts.specs.Metering.{Stands, answer_for, closed_by, metered_with, span_with}
use Rattle.tca_accounts.specs.declared.metered.Metered.{Metered}
use Rattle.tca_accounts.specs.declared.span.Span.{Span}
use Rattle.tca_accounts.proofs.Counting.{sums_push}
use Rattle.tca_accounts.proofs.Periods.{spans_push}

-- a later time is of no earlier period
periods_rise : (period m n : ℕ) → 0 < period → m ≤ n → m / period ≤ n / period
periods_rise period m n h le = le-div (m / period) n period h (le_trans (div-mul-le_self m period) le)

-- the last span is of a period no later than the next report's
pub still_last : (period time : ℕ) (r : PacketReport) (current : Option Span) (ended : List Span) → 0 < period → time ≤ r.time → MatchOption current (ended ≡ []) (λ s. s.index ≡ time / period) → MatchOption current (ended ≡ []) (λ s. s.index ≤ period_of period r)
still_last period time r None ended h le last = last
still_last period time r (Some s) ended h le last = rw last (periods_rise period time r.time h le)

-- metering with one more report, by any meter
pub stands_more : {S : Type 0} (rule : Rule S) (other : Colour) (period : ℕ) (whole : List (PacketReport × Colour)) (r : PacketReport) (later : List PacketReport) (m : Metered S) (ended : List Span) (current : Option Span) → 0 < period → m.time ≤ r.time → Stands rule other period whole (r ∷ later) m ended current
    → Stands rule other period whole later (metered_with rule other m r) (closed_by current (period_of period r) ended) (Some (span_with period r (answer_for rule other m r).0 current))
unfolding coloured
stands_more rule other period whole r later m ended current h le k =
    let found = answer_for rule other m r in
    let pair : PacketReport × Colour = (r, found.0) in
    record {
      sofar = k.sofar ++ pair ∷ [];
      split = append_assoc k.sofar (pair ∷ []) _ ∙ k.split;
      total = ap (with_packet found.0 r.octets) k.total ∙ sym (sums_push k.sofar r found.0);
      spans = spans_push period k.sofar r found.0 ended current k.spans (still_last period m.time r current ended h le k.last);
      last = refl;
    }
