use Rattle.std.proofs.Common.{◌≡◌, take}
use Rattle.tca_gossip.specs.Coupling.{new_world}
use Rattle.tca_gossip.proofs.world.World.new.Given as goal

abbrev pub invariant-loop-name : goal.invariant-loop-name
invariant-loop-name l = l.world ≡ new_world l.fn.plan (take l.name-index l.names)
