use Rattle.std.proofs.Common.{arith}
use Rattle.std.proofs.lemmas.Grind.{common_steps}
use Rattle.tca_commands.proofs.answers.append_all.Goals as goal

pub returns-in_err-reserve : goal.returns-in_err-reserve
returns-in_err-reserve c = grind (arith, common_steps)

pub loop-reports-init : goal.loop-reports-init
loop-reports-init c = grind (arith, common_steps)

pub returns-in_err-extend_from_slice : goal.returns-in_err-extend_from_slice
returns-in_err-extend_from_slice c = grind (arith, common_steps)

pub loop-reports-preserved : goal.loop-reports-preserved
loop-reports-preserved c = grind (arith, common_steps)
