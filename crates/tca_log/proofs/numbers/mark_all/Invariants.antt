use Rattle.std.proofs.Common.{◌≡◌, ◌<◌, List, ◌++◌, get_or, false}
use Rattle.tca_report.specs.report.Reports.{PacketReport}
use Rattle.tca_report.specs.declared.report.Identity.{Identity}
use Rattle.tca_log.specs.inside.Numbers.{AreMarked, number}
use Rattle.tca_log.proofs.numbers.mark_all.Given as goal

-- the reports that were seen are marked
abbrev pub invariant-loop-report : goal.invariant-loop-report
invariant-loop-report g l = record {
  seen : List PacketReport;
  split : seen ++ l.report-iterator ≡ l.reports.rows;
  marked : AreMarked l.bits seen l.marks;
  apart : l.again ≡ false → (i : Identity) → get_or l.marks (number l.bits i) 0 < 2;
}
