use Rattle.std.proofs.Common.{arith}
use Rattle.std.proofs.lemmas.Grind.{common_steps}
use Rattle.tca_commands.proofs.meter.lines_of.Goals as goal

pub returns-in_err-meter-clause-lines : goal.returns-in_err-meter-clause-lines
returns-in_err-meter-clause-lines c = grind (arith, common_steps)

pub returns-in_err-meter-clause-due : goal.returns-in_err-meter-clause-due
returns-in_err-meter-clause-due c = grind (arith, common_steps)

pub returns-in_err-meter-clause-unmade : goal.returns-in_err-meter-clause-unmade
returns-in_err-meter-clause-unmade c = grind (arith, common_steps)

pub unite-requires : goal.unite-requires
unite-requires c = grind (arith, common_steps)

pub returns-in_err-log-clause-lines : goal.returns-in_err-log-clause-lines
returns-in_err-log-clause-lines c = grind (arith, common_steps)

pub returns-in_err-log-clause-due : goal.returns-in_err-log-clause-due
returns-in_err-log-clause-due c = grind (arith, common_steps)

pub returns-in_err-log-clause-unmade : goal.returns-in_err-log-clause-unmade
returns-in_err-log-clause-unmade c = grind (arith, common_steps)

pub meter_all-sums-requires-clause-rises : goal.meter_all-sums-requires-clause-rises
meter_all-sums-requires-clause-rises c = grind (arith, common_steps)

pub meter_all-sums-requires-clause-few : goal.meter_all-sums-requires-clause-few
meter_all-sums-requires-clause-few c = grind (arith, common_steps)

pub returns-in_err-lines-clause-lines : goal.returns-in_err-lines-clause-lines
returns-in_err-lines-clause-lines c = grind (arith, common_steps)

pub returns-in_err-lines-clause-due : goal.returns-in_err-lines-clause-due
returns-in_err-lines-clause-due c = grind (arith, common_steps)

pub returns-in_err-lines-clause-unmade : goal.returns-in_err-lines-clause-unmade
returns-in_err-lines-clause-unmade c = grind (arith, common_steps)

pub returns-clause-lines : goal.returns-clause-lines
returns-clause-lines c = grind (arith, common_steps)

pub returns-clause-due : goal.returns-clause-due
returns-clause-due c = grind (arith, common_steps)
