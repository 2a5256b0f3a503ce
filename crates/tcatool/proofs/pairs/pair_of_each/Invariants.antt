use Rattle.std.proofs.Common.{◌≡◌, ◌++◌, map}
use Rattle.tcatool.specs.Paired.{pair_of}
use Rattle.tcatool.proofs.pairs.pair_of_each.Given as goal

-- the pairs so far, and those of what is left, are all
abbrev pub invariant-loop-report : goal.invariant-loop-report
invariant-loop-report l = l.all.items ++ map pair_of l.report-iterator ≡ map pair_of l.log
