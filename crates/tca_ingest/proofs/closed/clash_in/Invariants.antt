use Rattle.std.proofs.Common.{◌≡◌, ◌≤◌, drop, length}
use Rattle.std.specs.List.{AllByRecursion}
use Rattle.tca_gossip.specs.Replicas.{IsReplica}
use Rattle.tca_ingest.specs.Closed.{clash_all, replicas_of}
use Rattle.tca_ingest.proofs.closed.clash_in.Given as goal

abbrev pub invariant-loop-i : goal.invariant-loop-i
invariant-loop-i l = record {
  within : l.i ≤ length l.closed;
  least : l.least ≡ clash_all (replicas_of (drop l.i l.closed));
  known : AllByRecursion IsReplica (replicas_of (drop l.i l.closed));
}

abbrev pub decreases-loop-i : goal.decreases-loop-i
decreases-loop-i l = l.i
