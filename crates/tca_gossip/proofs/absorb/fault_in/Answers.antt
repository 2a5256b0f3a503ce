use Rattle.std.proofs.Common.{arith, rules}
use Rattle.std.proofs.lemmas.Grind.{common_steps}
use Rattle.tca_gossip.proofs.absorb.fault_in.Goals as goal

pub returns-then-have-from-clause-fault : goal.returns-then-have-from-clause-fault
returns-then-have-from-clause-fault c = search rules

pub returns-in-Some-clause-fault : goal.returns-in-Some-clause-fault
returns-in-Some-clause-fault c = grind (arith, common_steps)

pub returns-in-None-clause-fault : goal.returns-in-None-clause-fault
returns-in-None-clause-fault c = grind (arith, common_steps)
