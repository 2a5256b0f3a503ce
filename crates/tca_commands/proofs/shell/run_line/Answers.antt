use Rattle.std.proofs.Common.{arith}
use Rattle.std.proofs.lemmas.Grind.{common_steps}
use Rattle.tca_commands.proofs.shell.run_line.Goals as goal

pub run_meter-requires-text-spec : goal.run_meter-requires-text-spec
run_meter-requires-text-spec g c κs within = grind (arith, common_steps)

pub create-requires-text-path : goal.create-requires-text-path
create-requires-text-path g c κs within = grind (arith, common_steps)

pub run_combine-requires : goal.run_combine-requires
run_combine-requires g c = grind (arith, common_steps)

pub read_plan-requires-text-path : goal.read_plan-requires-text-path
read_plan-requires-text-path g c κs within = grind (arith, common_steps)

pub billed-requires-after_bounds : goal.billed-requires-after_bounds
billed-requires-after_bounds g c κs within = grind (arith, common_steps)

pub audited-requires-text-plan : goal.audited-requires-text-plan
audited-requires-text-plan g c κs within = grind (arith, common_steps)

pub audited-requires-text-export : goal.audited-requires-text-export
audited-requires-text-export g c κs within = grind (arith, common_steps)

pub audited-requires-text-statement : goal.audited-requires-text-statement
audited-requires-text-statement g c κs within = grind (arith, common_steps)
