use Rattle.std.proofs.Common.{arith}
use Rattle.std.proofs.lemmas.Grind.{common_steps}
use Rattle.tca_commands.proofs.meter.run_meter.Goals as goal

pub lines_of-requires : goal.lines_of-requires
lines_of-requires g c = grind (arith, common_steps)

pub returns-in_err-lines-clause-done : goal.returns-in_err-lines-clause-done
returns-in_err-lines-clause-done g c = grind (arith, common_steps)

pub returns-in_err-lines-clause-refused : goal.returns-in_err-lines-clause-refused
returns-in_err-lines-clause-refused g c = grind (arith, common_steps)

pub returns-in_err-put_text-clause-done : goal.returns-in_err-put_text-clause-done
returns-in_err-put_text-clause-done g c = grind (arith, common_steps)

pub returns-in_err-put_text-clause-refused : goal.returns-in_err-put_text-clause-refused
returns-in_err-put_text-clause-refused g c = grind (arith, common_steps)

pub returns-clause-done : goal.returns-clause-done
returns-clause-done g c = grind (arith, common_steps)
