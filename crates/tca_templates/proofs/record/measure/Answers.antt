use Rattle.std.proofs.Common.{arith}
use Rattle.std.proofs.lemmas.Grind.{common_steps}
use Rattle.tca_templates.proofs.record.measure.Goals as goal

pub returns-then-is_empty : goal.returns-then-is_empty
returns-then-is_empty c = grind (arith, common_steps)

pub returns-then-octets-lt3 : goal.returns-then-octets-lt3
returns-then-octets-lt3 c = grind (arith, common_steps)

pub returns-then-octets-skip : goal.returns-then-octets-skip
returns-then-octets-skip c = grind (arith, common_steps)

pub returns : goal.returns
returns c = grind (arith, common_steps)
