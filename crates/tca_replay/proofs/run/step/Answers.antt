use Rattle.std.proofs.lemmas.Grind.{common_steps}
use Rattle.std.proofs.Common.{rules, arith}
use Rattle.tca_replay.proofs.run.step.Goals as goal

pub returns-clause-course : goal.returns-clause-course
returns-clause-course g c = search rules

pub meter_next-colour-requires-clause-order : goal.meter_next-colour-requires-clause-order
meter_next-colour-requires-clause-order g c = grind (arith, common_steps)

pub meter_next-colour-requires-clause-few : goal.meter_next-colour-requires-clause-few
meter_next-colour-requires-clause-few g c = grind (arith, common_steps)

pub count_in-requires-clause-few : goal.count_in-requires-clause-few
count_in-requires-clause-few g c = grind (arith, common_steps)

pub count_in-requires-clause-size : goal.count_in-requires-clause-size
count_in-requires-clause-size g c = grind (arith, common_steps)

pub count_in-requires-clause-room : goal.count_in-requires-clause-room
count_in-requires-clause-room g c = grind (arith, common_steps)

pub returns-clause-capacity : goal.returns-clause-capacity
returns-clause-capacity g c = grind (arith, common_steps)

pub returns-clause-period : goal.returns-clause-period
returns-clause-period g c = grind (arith, common_steps)
