use Rattle.std.proofs.Common.{◌≡◌, List, ◌++◌}
use Rattle.std.specs.List.{AllByRecursion}
use Rattle.tca_report.specs.report.Reports.{PacketReport}
use Rattle.tca_report.specs.report.Identities.{identity_of}
use Rattle.tca_log.specs.inside.Spans.{IsAmong}
use Rattle.tca_log.proofs.Marked.{AreMarked}
use Rattle.tca_log.proofs.marks.repeated_among.Given as goal

-- the reports that were seen are marked, and those that are left are among the spans
abbrev pub invariant-loop-report : goal.invariant-loop-report
invariant-loop-report g l = record {
  seen : List PacketReport;
  split : seen ++ l.report-iterator ≡ l.reports.rows;
  left : AllByRecursion (λ r. IsAmong l.spans (identity_of r)) l.report-iterator;
  marked : AreMarked l.spans seen l.marks l.again.items;
}
