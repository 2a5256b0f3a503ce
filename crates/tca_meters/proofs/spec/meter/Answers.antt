use Rattle.std.proofs.Common.{arith}
use Rattle.std.proofs.lemmas.Grind.{common_steps}
use Rattle.tca_meters.proofs.spec.meter.Goals as goal

pub returns-in_err-name : goal.returns-in_err-name
returns-in_err-name c = grind (arith, common_steps)

pub returns-then-eq : goal.returns-then-eq
returns-then-eq c = grind (arith, common_steps)

pub returns-then-eq-2 : goal.returns-then-eq-2
returns-then-eq-2 c = grind (arith, common_steps)

pub returns-then-eq-3 : goal.returns-then-eq-3
returns-then-eq-3 c = grind (arith, common_steps)

pub returns-else-eq-3 : goal.returns-else-eq-3
returns-else-eq-3 c = grind (arith, common_steps)
