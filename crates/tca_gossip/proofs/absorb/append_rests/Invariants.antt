use Rattle.std.proofs.Common.{◌≡◌, true, take, length}
use Rattle.tca_gossip.specs.Replicas.{appended, chain_of}
use Rattle.tca_gossip.specs.Runs.{rests}
use Rattle.tca_gossip.proofs.absorb.append_rests.Given as goal

abbrev pub invariant-loop-run : goal.invariant-loop-run
invariant-loop-run l = record {
  state : l.contents.replica ≡ appended l.fn.contents.replica (rests (chain_of l.fn.contents.replica) (take l.run-index l.runs));
  count_is : l.count ≡ length (rests (chain_of l.fn.contents.replica) (take l.run-index l.runs));
  stays : l.fn.contents.billing.kept ≡ true → l.contents.billing.kept ≡ true;
}
