use Rattle.std.proofs.Common.{◌≡◌, List, ◌++◌}
use Rattle.tca_report.specs.report.Reports.{PacketReport}
use Rattle.tca_log.proofs.AscendingIdentities.{AreBelow}
use Rattle.tca_log.proofs.ascending.identities_ascend.Given as goal

-- the reports that were seen, and then those that are left
abbrev pub invariant-loop-report : goal.invariant-loop-report
invariant-loop-report g l = record {
  seen : List PacketReport;
  split : seen ++ l.report-iterator ≡ l.reports.rows;
  below : AreBelow seen l.before;
}
