use Rattle.std.proofs.Common.{◌≡◌, ◌++◌, map}
use Rattle.tca_log.specs.inside.Logs.{indexed}
use Rattle.tca_log.proofs.additions.by_identity.Given as goal

abbrev pub invariant-loop-report : goal.invariant-loop-report
invariant-loop-report g l = l.keys.items ++ map indexed l.report-iterator ≡ map indexed l.reports.rows
