use Rattle.std.proofs.Common.{arith}
use Rattle.std.proofs.lemmas.Grind.{common_steps}
use Rattle.tca_commands.proofs.shell.run.Goals as goal

pub returns-in-Err : goal.returns-in-Err
returns-in-Err g c = grind (arith, common_steps)

pub run_line-requires-after_bounds : goal.run_line-requires-after_bounds
run_line-requires-after_bounds g c κs within = grind (arith, common_steps)

pub returns-in-Ok-Noted : goal.returns-in-Ok-Noted
returns-in-Ok-Noted g c = grind (arith, common_steps)

pub returns-in-Ok-Done : goal.returns-in-Ok-Done
returns-in-Ok-Done g c = grind (arith, common_steps)

pub returns-in-Ok-Differs : goal.returns-in-Ok-Differs
returns-in-Ok-Differs g c = grind (arith, common_steps)

pub returns : goal.returns
returns g c = grind (arith, common_steps)
