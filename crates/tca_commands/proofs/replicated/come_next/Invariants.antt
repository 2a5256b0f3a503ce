use Rattle.std.proofs.Common.{◌≡◌, ◌++◌, take}
use Rattle.tca_commands.proofs.replicated.come_next.Given as goal

-- the reports so far came first
abbrev pub invariant-loop-report : goal.invariant-loop-report
invariant-loop-report l = l.fn.left ≡ take l.report-index l.reports ++ l.left
