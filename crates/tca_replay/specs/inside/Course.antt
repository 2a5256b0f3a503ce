-- Metering a list of reports from a state on. No public contract cites this: it serves the fields of lanes and private functions alone.
use Rattle.std.specs.Prelude.{ℕ, List, [], ◌∷◌, Option, Some, None}
use Rattle.tca_report.specs.report.Reports.{PacketReport}
use Rattle.tca_meters.specs.declared.colour.Colour.{Colour}
use Rattle.tca_meters.specs.Packets.{Rule}
use Rattle.tca_accounts.specs.Spans.{period_of}
use Rattle.tca_accounts.specs.Metering.{answer_for, closed_by, metered_none, metered_with, span_with}
use Rattle.tca_accounts.specs.declared.metered.Metered.{Metered}
use Rattle.tca_accounts.specs.declared.span.Span.{Span}

-- a meter's rule, the colour of a code point that has none of its own, and the length of a period
pub record Metering (S : Type 0) : Type 0 where
  pub rule : Rule S
  pub other : Colour
  pub period : ℕ

-- where the metering of a list stands: the state, the time and the sums, the spans that ended, and the one that goes on
pub record Course (S : Type 0) : Type 0 where
  pub metered : Metered S
  pub closed : List Span
  pub current : Option Span

-- one report
abbrev pub one : {S : Type 0} → Metering S → Course S → PacketReport → Course S
one w c r = record {
  metered = metered_with w.rule w.other c.metered r;
  closed = closed_by c.current (period_of w.period r) c.closed;
  current = Some (span_with w.period r (answer_for w.rule w.other c.metered r).0 c.current);
}

-- reports, in order
unfoldable pub course : {S : Type 0} → Metering S → Course S → List PacketReport → Course S
course w c [] = c
course w c (r ∷ rs) = course w (one w c r) rs

-- where it starts
abbrev pub start : {S : Type 0} → Metering S → Course S
start w = record { metered = metered_none w.rule; closed = []; current = None }
