use Rattle.std.proofs.Common.{◌≡◌, ◌+◌, length, drop}
use Rattle.std.specs.List.Sorted.{IsStrictlySortedBy}
use Rattle.tca_report.specs.report.Reports.{report_cmp}
use Rattle.tca_log.specs.Disputes.{settled_of, undisputed}
use Rattle.tca_accounts.specs.Bills.{unassigned}
use Rattle.tca_accounts.proofs.Bills.{none_in}
use Rattle.tca_audit.specs.inside.Metering.{AreMetering}
use Rattle.tca_audit.proofs.bill.meter_all.Given as goal

-- each account had the reports so far that it owns and that aren't disputed, and those that none owns were counted
abbrev pub invariant-loop-report : goal.invariant-loop-report
invariant-loop-report l = record {
  metering : AreMetering l.plan (undisputed l.reports) (settled_of l.disputes (drop l.report-index l.reports)) l.accounts.items;
  rises : IsStrictlySortedBy report_cmp (settled_of l.disputes (drop l.report-index l.reports));
  unassigned : l.unassigned + none_in l.plan (settled_of l.disputes (drop l.report-index l.reports)) ≡ length (unassigned l.plan l.reports);
}
