-- What is kept of the accounts while their reports are metered one after another. Public contracts cite the step of one report,
-- `metered_with`, and what it is made of; the rest serves private functions and their proofs alone.
use Rattle.std.specs.Prelude.{◌≡◌, ℕ, ◌/◌, ◌==◌, if◌then◌else◌, ◌<◌, ◌≤◌, List, [], ◌∷◌, ◌++◌, length, filter, get_or, slice_index, Option, Some, None, IfSome, MatchOption}
use Rattle.std.specs.List.{AllByRecursion}
use Rattle.tca_report.specs.report.Reports.{PacketReport, most_reports}
use Rattle.tca_meters.specs.declared.colour.Colour.{Colour}
use Rattle.tca_meters.specs.Colours.{colour_number}
use Rattle.tca_meters.specs.Packets.{Rule, answer, coloured}
use Rattle.tca_meters.specs.Termed.{termed_rule}
use Rattle.tca_accounts.specs.Plans.{AccountPlan, PlannedAccount, account_of}
use Rattle.tca_accounts.specs.Sums.{ColourSums, packet_of, sums_of, with_packet}
use Rattle.tca_accounts.specs.Spans.{period_of, spans_of}
use Rattle.tca_accounts.specs.Bills.{is_number, coloured_in}
use Rattle.tca_accounts.specs.declared.metered.Metered.{Metered}
use Rattle.tca_accounts.specs.declared.running.Running.{Running}
use Rattle.tca_accounts.specs.declared.span.Span.{Span}
use Rattle.tca_accounts.specs.declared.tally.Tally.{Tally}

-- the sums of no packets
abbrev pub no_sums : ColourSums
no_sums = record { octets = 0 ∷ 0 ∷ 0 ∷ []; packets = 0 ∷ 0 ∷ 0 ∷ [] }

-- metering before the first report
abbrev pub metered_none : {S : Type 0} → Rule S → Metered S
metered_none rule = record { state = rule.opening; time = 0; total = no_sums }

-- the colour of a report that comes next, and the state after it
abbrev pub answer_for : {S : Type 0} → Rule S → Colour → Metered S → PacketReport → Colour × S
answer_for rule other m r = answer rule m.state m.time (packet_of other r)

-- metering with that report
abbrev pub metered_with : {S : Type 0} → Rule S → Colour → Metered S → PacketReport → Metered S
metered_with rule other m r =
    let found = answer_for rule other m r in
    record { state = found.1; time = r.time; total = with_packet found.0 r.octets m.total }

-- the spans that ended, and the one that goes on
abbrev pub with_last : List Span → Option Span → List Span
with_last ended None = ended
with_last ended (Some s) = ended ++ s ∷ []

-- the sums that a period has so far, by the span that goes on
abbrev pub sums_in : Option Span → ℕ → ColourSums
sums_in None index = no_sums
sums_in (Some s) index = if s.index == index then s.sums else no_sums

-- the spans that ended, where a report of a period comes next
abbrev pub closed_by : Option Span → ℕ → List Span → List Span
closed_by None index ended = ended
closed_by (Some s) index ended = if s.index == index then ended else ended ++ s ∷ []

-- the span that goes on once a report of this colour came
abbrev pub span_with : ℕ → PacketReport → Colour → Option Span → Span
span_with period r c current = record { index = period_of period r; sums = with_packet c r.octets (sums_in current (period_of period r)) }

-- the tally of the reports so far, by their sums, the spans that ended and the one that goes on
abbrev pub tally_at : ColourSums → List Span → Option Span → Tally
tally_at total ended current = record { total = total; spans = with_last ended current }

abbrev pub tally_so_far : Running → Tally
tally_so_far r = tally_at r.metered.total r.ended.items r.current

-- each colour has room for one more packet
abbrev pub HasRoom : ColourSums → Type 0
HasRoom s = (c : Colour) → slice_index s.packets (colour_number c) < most_reports

-- there is room for one more report, in all and in the period that goes on
pub record CanAdd (all : ColourSums) (going : Option Span) : Type 0 where
  pub total : HasRoom all
  pub current : IfSome going (λ s. HasRoom s.sums)

-- where metering stands before the later reports, by any meter: the colours so far, and those that the meter gives from here
-- on, are the whole, the sums are those of the reports so far, and the span that goes on is of the period of the last one
pub record Stands {S : Type 0} (rule : Rule S) (other : Colour) (period : ℕ) (whole : List (PacketReport × Colour)) (later : List PacketReport) (m : Metered S) (ended : List Span) (current : Option Span) : Type 0 where
  pub sofar : List (PacketReport × Colour)
  pub split : sofar ++ coloured rule (packet_of other) m.state m.time later ≡ whole
  pub total : m.total ≡ sums_of sofar
  pub spans : with_last ended current ≡ spans_of period sofar
  pub last : MatchOption current (ended ≡ []) (λ s. s.index ≡ m.time / period)

-- where an account stands before its later reports
abbrev pub IsRunning : ℕ → List (PacketReport × Colour) → List PacketReport → Running → Type 0
IsRunning period whole later r = Stands (termed_rule r.meter) r.other period whole later r.metered r.ended.items r.current

-- the reports among these that an account owns, in order
abbrev pub owned : AccountPlan → ℕ → List PacketReport → List PacketReport
owned plan n rs = filter (λ r. is_number n (account_of plan r)) rs

-- each account of a plan stands before those of the later reports that it owns, and none of these is before one that it had
pub record AreRunning (plan : AccountPlan) (all later : List PacketReport) (rs : List Running) : Type 0 where
  pub count : length rs ≡ length plan.accounts
  pub each : (n : ℕ) (a : PlannedAccount) (r : Running) → n < length plan.accounts → IsRunning plan.period (coloured_in (get_or plan.accounts n a) (owned plan n all)) (owned plan n later) (get_or rs n r)
  pub early : (n : ℕ) (r : Running) → n < length plan.accounts → AllByRecursion (λ (q : PacketReport). (get_or rs n r).metered.time ≤ q.time) later
