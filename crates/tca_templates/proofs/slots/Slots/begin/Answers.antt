use Rattle.std.proofs.Common.{arith}
use Rattle.std.proofs.lemmas.Grind.{common_steps}
use Rattle.tca_templates.proofs.slots.Slots.begin.Goals as goal

pub invariant_of-self : goal.invariant_of-self
invariant_of-self c = grind (arith, common_steps)

pub invariant_of-self-2 : goal.invariant_of-self-2
invariant_of-self-2 c = grind (arith, common_steps)

pub returns-clause-known : goal.returns-clause-known
returns-clause-known c = grind (arith, common_steps)

pub returns-clause-before : goal.returns-clause-before
returns-clause-before c = grind (arith, common_steps)
