use Rattle.std.proofs.lemmas.Grind.{common_steps}
use Rattle.std.proofs.Common.{arith}
use Rattle.tcatool.proofs.split.print_parts.Goals as goal

pub returns-in_err-put_all-clause-cut_off : goal.returns-in_err-put_all-clause-cut_off
returns-in_err-put_all-clause-cut_off g c = grind (arith, common_steps)

pub returns-clause-done : goal.returns-clause-done
returns-clause-done g c = grind (arith, common_steps)
