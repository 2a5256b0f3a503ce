use Rattle.std.proofs.Common.{◌≡◌, ◌++◌}
use Rattle.tcatool.proofs.diff.push_all.Given as goal

-- what was appended, and what is left, is the whole
abbrev pub invariant-loop-report : goal.invariant-loop-report
invariant-loop-report l = l.all.items ++ l.report-iterator ≡ l.fn.all.items ++ l.log
