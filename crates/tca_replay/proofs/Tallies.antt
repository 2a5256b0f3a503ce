-- The tally of a lane that was resumed.
use Rattle.std.proofs.Common.{◌≡◌, ℕ, Bool, List, [], sym, subst, Option, Some, None}
use Rattle.std.specs.List.Sorted.{IsStrictlySortedBy}
use Rattle.tca_report.specs.report.Reports.{PacketReport, report_cmp}
use Rattle.tca_meters.specs.declared.colour.Colour.{Colour}
use Rattle.tca_accounts.specs.Spans.{Ascend}
use Rattle.tca_accounts.specs.Bills.{coloured_by, tally_of}
use Rattle.tca_accounts.specs.Metering.{tally_at, with_last}
use Rattle.tca_accounts.specs.declared.span.Span.{Span}
use Rattle.tca_accounts.proofs.Bills as bills
use Rattle.tca_log.specs.Rows.Ordered.{Ordered}
use Rattle.tca_replay.specs.declared.run.Standing.{Standing}
use Rattle.tca_replay.specs.declared.run.Mark.{Mark}
use Rattle.tca_replay.specs.inside.Course.{Metering}
use Rattle.tca_replay.specs.inside.Standings.{course_at}
use Rattle.tca_replay.specs.Lanes.{IsLane, row_of}
use Rattle.tca_replay.proofs.Course.{StandsAt, stands}

module _ {S : Type 0} (w : Metering S) (every : ℕ) (store : Ordered PacketReport) (standing : Standing S) (all : List (Mark S)) (closed : List Span) (ready : Bool) (sr mr : ℕ) (rises : IsStrictlySortedBy report_cmp store.rows) where
  abbrev pairs : List (PacketReport × Colour)
  pairs = coloured_by w.rule w.other store.rows

  stands_now : (changed : Option PacketReport) → IsLane w every store changed standing all closed ready sr mr → row_of changed store.rows ≡ None → StandsAt w pairs [] (course_at standing closed)
  stands_now (Some r) l none = absurd cc
  stands_now None l none = subst (StandsAt w pairs []) (sym l.stands) (stands w store.rows l.period rises)

  pub spans_ascend : (changed : Option PacketReport) → IsLane w every store changed standing all closed ready sr mr → row_of changed store.rows ≡ None → Ascend (with_last closed standing.current)
  spans_ascend changed l none = bills.spans_rise w.rule w.other w.period pairs standing.metered closed standing.current [] (stands_now changed l none)

  pub tally_done : (changed : Option PacketReport) → IsLane w every store changed standing all closed ready sr mr → row_of changed store.rows ≡ None → tally_at standing.metered.total closed standing.current ≡ tally_of w.period pairs
  tally_done changed l none = bills.tally_done w.rule w.other w.period pairs standing.metered closed standing.current (stands_now changed l none)
