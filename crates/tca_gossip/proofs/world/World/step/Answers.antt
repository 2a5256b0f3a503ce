use Rattle.std.proofs.Common.{arith}
use Rattle.std.proofs.lemmas.Grind.{common_steps}
use Rattle.tca_gossip.proofs.world.World.step.Goals as goal

pub returns-in-Take-clause-steps : goal.returns-in-Take-clause-steps
returns-in-Take-clause-steps c = grind (arith, common_steps)

pub returns-in-Ask-clause-steps : goal.returns-in-Ask-clause-steps
returns-in-Ask-clause-steps c = grind (arith, common_steps)

pub returns-in-Answer-clause-steps : goal.returns-in-Answer-clause-steps
returns-in-Answer-clause-steps c = grind (arith, common_steps)

pub returns-in-Deliver-clause-steps : goal.returns-in-Deliver-clause-steps
returns-in-Deliver-clause-steps c = grind (arith, common_steps)

pub returns-in-Merge-clause-steps : goal.returns-in-Merge-clause-steps
returns-in-Merge-clause-steps c = grind (arith, common_steps)
