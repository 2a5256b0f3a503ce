use Rattle.std.proofs.Common.{arith}
use Rattle.std.proofs.lemmas.Grind.{common_steps}
use Rattle.tca_templates.proofs.slots.make_room.Goals as goal

pub returns-in_err-reserve-clause-steps : goal.returns-in_err-reserve-clause-steps
returns-in_err-reserve-clause-steps c = grind (arith, common_steps)

pub returns-in_err-reserve-clause-free : goal.returns-in_err-reserve-clause-free
returns-in_err-reserve-clause-free c = grind (arith, common_steps)

pub returns-in_ok-reserve-clause-steps : goal.returns-in_ok-reserve-clause-steps
returns-in_ok-reserve-clause-steps c = grind (arith, common_steps)

pub returns-in_ok-reserve-clause-free : goal.returns-in_ok-reserve-clause-free
returns-in_ok-reserve-clause-free c = grind (arith, common_steps)

pub returns-in_default-clause-steps : goal.returns-in_default-clause-steps
returns-in_default-clause-steps c = grind (arith, common_steps)

pub returns-in_default-clause-free : goal.returns-in_default-clause-free
returns-in_default-clause-free c = grind (arith, common_steps)
