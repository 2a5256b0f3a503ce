use Rattle.std.proofs.Common.{◌≡◌, ◌≤◌, List, ◌++◌, length}
use Rattle.std.specs.List.{AllByRecursion}
use Rattle.tca_report.specs.report.Reports.{PacketReport}
use Rattle.tca_report.specs.report.Identities.{identity_of}
use Rattle.tca_log.specs.inside.Spans.{IsAmong}
use Rattle.tca_log.proofs.spans.spans_of.Given as goal

-- the reports that were seen, all of them among the spans, and then those that are left
abbrev pub invariant-loop-report : goal.invariant-loop-report
invariant-loop-report g l = record {
  seen : List PacketReport;
  split : seen ++ l.report-iterator ≡ l.reports.rows;
  few : length l.spans.items ≤ 16;
  among : AllByRecursion (λ r. IsAmong l.spans.items (identity_of r)) seen;
}
