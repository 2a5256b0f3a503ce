use Rattle.std.proofs.Common.{length}
use Rattle.tca_gossip.specs.Coupling.{AreDistinct}
use Rattle.tca_gossip.proofs.world.are_distinct.Given as goal

-- no name before the rest stands twice
abbrev pub invariant-loop-name : goal.invariant-loop-name
invariant-loop-name l = record {
  there : AreDistinct l.names → AreDistinct l.rest;
  back : AreDistinct l.rest → AreDistinct l.names;
}

abbrev pub decreases-loop-name : goal.decreases-loop-name
decreases-loop-name l = length l.rest
