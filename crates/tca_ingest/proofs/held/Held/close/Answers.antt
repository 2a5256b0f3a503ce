use Rattle.std.proofs.Common.{arith}
use Rattle.std.proofs.lemmas.Grind.{common_steps}
use Rattle.tca_ingest.proofs.held.Held.close.Goals as goal

pub fault_of-requires : goal.fault_of-requires
fault_of-requires g c = grind (arith, common_steps)

pub returns-in-Some-clause-fault : goal.returns-in-Some-clause-fault
returns-in-Some-clause-fault g c = grind (arith, common_steps)

pub returns-in-Some-clause-back : goal.returns-in-Some-clause-back
returns-in-Some-clause-back g c = grind (arith, common_steps)

pub returns-in-None-clause-closing : goal.returns-in-None-clause-closing
returns-in-None-clause-closing g c = grind (arith, common_steps)

pub returns-in-None-clause-history : goal.returns-in-None-clause-history
returns-in-None-clause-history g c = grind (arith, common_steps)

pub returns-in-None-clause-replayed : goal.returns-in-None-clause-replayed
returns-in-None-clause-replayed g c = grind (arith, common_steps)

pub returns-in-None-clause-same : goal.returns-in-None-clause-same
returns-in-None-clause-same g c = grind (arith, common_steps)
