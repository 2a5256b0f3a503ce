use Rattle.std.proofs.Common.{◌++◌, take}
use Rattle.std.specs.List.Sorted.{IsPermutation}
use Rattle.tca_ingest.specs.Works.{views_of, all_calls, entries_in}
use Rattle.tca_ingest.proofs.collect.stranger_of.Given as goal

abbrev pub invariant-loop-job : goal.invariant-loop-job
invariant-loop-job g l = IsPermutation (entries_in (take l.job l.done) ++ views_of l.left.items) (all_calls l.passes)
