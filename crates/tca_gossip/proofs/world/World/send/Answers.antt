use Rattle.std.proofs.lemmas.Grind.{common_steps}
use Rattle.std.proofs.Common.{arith}
use Rattle.tca_gossip.proofs.world.World.send.Goals as goal

pub returns : goal.returns
returns c = grind (arith, common_steps)
