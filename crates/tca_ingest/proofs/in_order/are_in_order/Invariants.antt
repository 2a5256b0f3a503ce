use Rattle.std.proofs.Common.{◌++◌, take}
use Rattle.std.specs.List.Sorted.{IsPermutation}
use Rattle.tca_ingest.specs.Works.{all_calls, calls_left, entries_in}
use Rattle.tca_ingest.proofs.in_order.are_in_order.Given as goal

abbrev pub invariant-loop-job : goal.invariant-loop-job
invariant-loop-job g l = IsPermutation (entries_in (take l.job l.done) ++ calls_left l.left.items) (all_calls l.passes)
