use Rattle.std.proofs.Common.{◌≡◌, take, false}
use Rattle.tca_gossip.specs.Worlds.{any_named}
use Rattle.tca_gossip.proofs.world.World.place.Given as goal

abbrev pub invariant-loop-i : goal.invariant-loop-i
invariant-loop-i l = any_named (take l.i l.self.replicas) l.name ≡ false
