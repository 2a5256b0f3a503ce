use Rattle.std.proofs.Common.{◌≡◌, take}
use Rattle.std.specs.Prelude.{map}
use Rattle.tca_report.specs.report.Identities.{identity_of}
use Rattle.tca_audit.proofs.disputes.identities_of.Given as goal

abbrev pub invariant-loop-report : goal.invariant-loop-report
invariant-loop-report l = l.list.items ≡ map identity_of (take l.report-index l.reports)
