-- What a lane keeps, and what its callers see.
use Rattle.std.specs.Prelude.{◌≡◌, ℕ, ◌+◌, ◌*◌, ◌<◌, ◌≤◌, min, Bool, true, false, List, length, take, get_or, Option, Some, None, IfNone, if◌then◌else◌}
use Rattle.std.specs.Ordering.{is_lt}
use Rattle.tca_report.specs.report.Reports.{PacketReport, report_cmp}
use Rattle.tca_join.specs.Sets.{put}
use Rattle.tca_log.specs.Rows.Ordered.{rank, without, Ordered}
use Rattle.tca_accounts.specs.declared.span.Span.{Span}
use Rattle.tca_meters.specs.declared.colour.Colour.{Colour}
use Rattle.tca_replay.specs.declared.run.Standing.{Standing}
use Rattle.tca_replay.specs.declared.run.Mark.{Mark}
use Rattle.tca_replay.specs.inside.Course.{Metering, course, start}
use Rattle.tca_replay.specs.inside.Standings.{course_at}
use Rattle.tca_replay.specs.inside.Marks.{IsMark}

-- the most rows from a mark to the next
abbrev pub most_rows_a_mark : ℕ
most_rows_a_mark = 65536

-- What callers see of a lane: the meter, the colour of a code point that has none of its own, the length of a period, how many
-- rows there are from a mark to the next, the rows, the least row at which one came or went since they were metered, and
-- whether there is room for one more.
pub record LaneView (M : Type 0) : Type 0 where
  pub meter : M
  pub other : Colour
  pub period : ℕ
  pub k : ℕ
  pub rows : List PacketReport
  pub changed : Option ℕ
  pub ready : Bool

-- the least row of those that changed
abbrev pub least : Option ℕ → ℕ → ℕ
least None n = n
least (Some m) n = min m n

-- the row at which a report comes or goes is its rank; a row that comes takes the room
abbrev pub lane_put : {M : Type 0} → LaneView M → PacketReport → LaneView M
lane_put l r = record { meter = l.meter; other = l.other; period = l.period; k = l.k; rows = put report_cmp r l.rows; changed = Some (least l.changed (rank report_cmp r l.rows)); ready = false }

abbrev pub lane_less : {M : Type 0} → LaneView M → PacketReport → LaneView M
lane_less l r = record { meter = l.meter; other = l.other; period = l.period; k = l.k; rows = without report_cmp r l.rows; changed = Some (least l.changed (rank report_cmp r l.rows)); ready = l.ready }

abbrev pub lane_ready : {M : Type 0} → LaneView M → LaneView M
lane_ready l = record { meter = l.meter; other = l.other; period = l.period; k = l.k; rows = l.rows; changed = l.changed; ready = true }

abbrev pub lane_resumed : {M : Type 0} → LaneView M → LaneView M
lane_resumed l = record { meter = l.meter; other = l.other; period = l.period; k = l.k; rows = l.rows; changed = None; ready = l.ready }

abbrev pub lower_of : Option PacketReport → PacketReport → PacketReport
lower_of None r = r
lower_of (Some q) r = if is_lt (report_cmp q r) then q else r

-- the row of the least report that came or went
abbrev pub row_of : Option PacketReport → List PacketReport → Option ℕ
row_of None rows = None
row_of (Some r) rows = Some (rank report_cmp r rows)

-- how many rows are as they were when they were metered
abbrev pub kept : Option PacketReport → List PacketReport → ℕ
kept None rows = length rows
kept (Some r) rows = rank report_cmp r rows

-- What a lane keeps. The marks before the least change are right, and where nothing changed so is the standing; there is room for
-- the spans and the marks of all rows, and where it is ready of one more.
pub record IsLane {S : Type 0} (w : Metering S) (every : ℕ) (store : Ordered PacketReport) (changed : Option PacketReport) (standing : Standing S) (all : List (Mark S)) (closed : List Span) (ready : Bool) (span_room mark_room : ℕ) : Type 0 where
  pub period : 0 < w.period
  pub some : 0 < every
  pub small : every ≤ most_rows_a_mark
  pub marks : (j : ℕ) (d : Mark S) → j < length all → every * (j + 1) ≤ kept changed store.rows → IsMark w (take (every * (j + 1)) store.rows) closed (get_or all j d)
  pub reach : kept changed store.rows ≤ every * (length all + 1)
  pub stands : IfNone changed (course_at standing closed ≡ course w (start w) store.rows)
  pub spans : length store.rows ≤ span_room
  pub room : (n : ℕ) → every * n ≤ length store.rows → n ≤ mark_room
  pub store_ready : ready ≡ true → store.ready ≡ true
  pub spans_ready : ready ≡ true → length store.rows + 1 ≤ span_room
  pub room_ready : ready ≡ true → (n : ℕ) → every * n ≤ length store.rows + 1 → n ≤ mark_room
