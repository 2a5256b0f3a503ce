use Rattle.std.proofs.Common.{◌≡◌, take, length}
use Rattle.tca_gossip.specs.Replicas.{chain_of}
use Rattle.tca_gossip.specs.Runs.{rests}
use Rattle.tca_gossip.proofs.absorb.count_rests.Given as goal

abbrev pub invariant-loop-run : goal.invariant-loop-run
invariant-loop-run l = l.count ≡ length (rests (chain_of l.contents.replica) (take l.run-index l.runs))
