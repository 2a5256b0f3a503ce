use Rattle.std.proofs.Common.{◌≡◌, List, [], ◌∷◌, ◌++◌}
use Rattle.std.specs.List.Sorted.{IsStrictlySortedBy}
use Rattle.tca_report.specs.report.Reports.{PacketReport, report_cmp}
use Rattle.tca_report.specs.report.Identities.{identity_of}
use Rattle.tca_log.proofs.AscendingIdentities.{AreBelow}
use Rattle.tca_log.proofs.ascending.all_ascend.Given as goal

-- the reports that were seen before the last one, that one, and then those that are left
abbrev pub invariant-loop-report : goal.invariant-loop-report
invariant-loop-report l = record {
  seen : List PacketReport;
  split : (seen ++ l.before ∷ []) ++ l.report-iterator ≡ l.reports;
  rises : IsStrictlySortedBy report_cmp (seen ++ l.before ∷ []);
  below : AreBelow (seen ++ l.before ∷ []) (identity_of l.before);
}
