-- The settled reports of a set, as they come beside all of its reports. No public contract cites this: it serves private functions and
-- their proofs alone.
use Rattle.std.specs.Prelude.{Bool, false, List, [], ◌∷◌, Option, Some, None}
use Rattle.std.specs.Borrow.{Bor}
use Rattle.std.specs.Ordering.{eq_by_cmp}
use Rattle.tca_report.specs.report.Reports.{PacketReport, report_cmp}

-- the settled report that comes next, and those behind it
abbrev pub ahead : Option (Bor PacketReport) → List PacketReport → List PacketReport
ahead None later = []
ahead (Some r) later = r.now ∷ later

-- whether a report is that one
abbrev pub is_next : Option (Bor PacketReport) → PacketReport → Bool
is_next None r = false
is_next (Some q) r = eq_by_cmp report_cmp q.now r
