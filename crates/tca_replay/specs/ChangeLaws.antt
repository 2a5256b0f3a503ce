-- The laws of lists of changes.
use Rattle.std.specs.Prelude.{◌≡◌, List}
use Rattle.std.specs.List.Sorted.{IsStrictlySortedBy}
use Rattle.tca_report.specs.report.Reports.{PacketReport, report_cmp}
use Rattle.tca_join.specs.Sets.{has}
use Rattle.tca_meters.specs.Packets.{Rule}
use Rattle.tca_accounts.specs.Bills.{coloured_by, tally_of}
use Rattle.tca_accounts.specs.declared.tally.Tally.{Tally}
use Rattle.tca_replay.specs.Lanes.{LaneView, lane_resumed}
use Rattle.tca_replay.specs.Changes.{Change, rows_after, lane_after, is_left}

-- the tally that a lane answers
abbrev pub tally_in : {M S : Type 0} → (M → Rule S) → LaneView M → Tally
tally_in rule l = tally_of l.period (coloured_by (rule l.meter) l.other l.rows)

-- after changes and then `resume` the tally is that of the rows, put and withdrawn in turn, metered from time 0 on
abbrev pub TallyIsOfRows : (M S : Type 0) → (M → Rule S) → Type 0
TallyIsOfRows M S rule = (changes : List Change) (l : LaneView M)
    → tally_in rule (lane_resumed (lane_after changes l)) ≡ tally_of l.period (coloured_by (rule l.meter) l.other (rows_after changes l.rows))

-- rows that rise strictly do so after changes
abbrev pub RowsAreInOrder : Type 0
RowsAreInOrder = (changes : List Change) (rows : List PacketReport) → IsStrictlySortedBy report_cmp rows → IsStrictlySortedBy report_cmp (rows_after changes rows)

-- the rows are the reports that the last change of each leaves
abbrev pub RowsAreLeft : Type 0
RowsAreLeft = (changes : List Change) (rows : List PacketReport) (q : PacketReport) → has report_cmp (rows_after changes rows) q ≡ is_left changes q (has report_cmp rows q)

-- where two lists of changes leave the same reports they leave the same tally
abbrev pub SameRowsSameTally : (M S : Type 0) → (M → Rule S) → Type 0
SameRowsSameTally M S rule = (a b : List Change) (l : LaneView M) → IsStrictlySortedBy report_cmp l.rows
    → ((q : PacketReport) → is_left a q (has report_cmp l.rows q) ≡ is_left b q (has report_cmp l.rows q))
    → tally_in rule (lane_resumed (lane_after a l)) ≡ tally_in rule (lane_resumed (lane_after b l))
