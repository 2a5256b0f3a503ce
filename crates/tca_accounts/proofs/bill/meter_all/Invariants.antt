use Rattle.std.proofs.Common.{◌≡◌, ◌+◌, length}
use Rattle.tca_accounts.proofs.Bills.{none_in}
use Rattle.std.specs.List.Sorted.{IsStrictlySortedBy}
use Rattle.tca_report.specs.report.Reports.{report_cmp}
use Rattle.tca_log.specs.Disputes.{undisputed}
use Rattle.tca_accounts.specs.Bills.{unassigned}
use Rattle.tca_accounts.specs.Metering.{AreRunning}
use Rattle.tca_accounts.proofs.bill.meter_all.Given as goal

-- each account had the reports so far that it owns, and those that none owns were counted
abbrev pub invariant-loop-report : goal.invariant-loop-report
invariant-loop-report l = record {
  period : l.period ≡ l.plan.period;
  running : AreRunning l.plan (undisputed l.log) l.report-iterator l.accounts.items;
  rises : IsStrictlySortedBy report_cmp l.report-iterator;
  unassigned : l.unassigned + none_in l.plan l.report-iterator ≡ length (unassigned l.plan l.log);
}
