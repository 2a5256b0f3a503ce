use Rattle.std.proofs.Common.{◌≡◌, ◌++◌, filter, map}
use Rattle.tca_report.specs.report.Identities.{identity_of}
use Rattle.tca_log.specs.inside.Numbers.{is_again}
use Rattle.tca_log.proofs.numbers.marked_twice.Given as goal

-- those found so far, and those among what is left
abbrev pub invariant-loop-report : goal.invariant-loop-report
invariant-loop-report g l = l.again.items ++ filter (is_again l.bits l.marks) (map identity_of l.report-iterator) ≡ filter (is_again l.bits l.marks) (map identity_of l.reports.rows)
