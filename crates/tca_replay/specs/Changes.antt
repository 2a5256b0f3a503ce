-- Lists of rows that come and go.
use Rattle.std.specs.Prelude.{Bool, not, ◌&&◌, ◌||◌, List, [], ◌∷◌}
use Rattle.std.specs.Ordering.{eq_by_cmp}
use Rattle.tca_report.specs.report.Reports.{PacketReport, report_cmp}
use Rattle.tca_join.specs.Sets.{put}
use Rattle.tca_log.specs.Rows.Ordered.{without}
use Rattle.tca_replay.specs.Lanes.{LaneView, lane_put, lane_less, lane_ready}

-- a row that comes, or one that goes
pub data Change : Type 0 where
  Put : PacketReport → Change
  Withdrawn : PacketReport → Change

-- the rows after changes, one behind the other
abbrev pub rows_after : List Change → List PacketReport → List PacketReport
rows_after [] rows = rows
rows_after (Put r ∷ later) rows = rows_after later (put report_cmp r rows)
rows_after (Withdrawn r ∷ later) rows = rows_after later (without report_cmp r rows)

-- a lane after the calls of these changes, where room is made before each row that comes
abbrev pub lane_after : {M : Type 0} → List Change → LaneView M → LaneView M
lane_after [] l = l
lane_after (Put r ∷ later) l = lane_after later (lane_put (lane_ready l) r)
lane_after (Withdrawn r ∷ later) l = lane_after later (lane_less l r)

-- whether a report is there after changes, by the last change of it, and where there is none by whether it was there
abbrev pub is_left : List Change → PacketReport → Bool → Bool
is_left [] q there = there
is_left (Put r ∷ later) q there = is_left later q (eq_by_cmp report_cmp q r || there)
is_left (Withdrawn r ∷ later) q there = is_left later q (not (eq_by_cmp report_cmp r q) && there)
