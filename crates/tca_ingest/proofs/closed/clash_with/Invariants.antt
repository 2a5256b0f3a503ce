use Rattle.std.proofs.Common.{◌≡◌, ◌≤◌, drop, length}
use Rattle.tca_ingest.specs.Closed.{clash_among, replicas_of}
use Rattle.tca_ingest.proofs.closed.clash_with.Given as goal

abbrev pub invariant-loop-i : goal.invariant-loop-i
invariant-loop-i l = record {
  within : l.i ≤ length l.others;
  least : l.least ≡ clash_among l.replica (replicas_of (drop l.i l.others));
}

abbrev pub decreases-loop-i : goal.decreases-loop-i
decreases-loop-i l = l.i
