-- How reports come to a log, and what it holds after them.
use Rattle.std.specs.Prelude.{List, [], ◌∷◌, ◌++◌}
use Rattle.std.specs.List.{flat_map}
use Rattle.tca_join.specs.Sets.{put, in_order}
use Rattle.tca_report.specs.report.Reports.{PacketReport, report_cmp}

-- the reports that one call gives to a log: one by `add`, those of another log by `union`, or those of a list by `add_all`
pub data Arrival : Type 0 where
  One : PacketReport → Arrival
  Many : List PacketReport → Arrival

-- the reports of one such call
abbrev pub given_by : Arrival → List PacketReport
given_by (One r) = r ∷ []
given_by (Many rs) = rs

-- all reports that came, with their repeats
abbrev pub all_given : List Arrival → List PacketReport
all_given arrivals = flat_map given_by arrivals

-- what a log holds after a call that was not refused
abbrev pub after : Arrival → List PacketReport → List PacketReport
after (One r) log = put report_cmp r log
after (Many rs) log = in_order report_cmp (log ++ rs)

-- and after such calls, one behind the other
abbrev pub after_all : List Arrival → List PacketReport → List PacketReport
after_all [] log = log
after_all (a ∷ later) log = after_all later (after a log)
