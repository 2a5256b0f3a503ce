use Rattle.std.proofs.Common.{rules}
use Rattle.tca_program.proofs.files.read_plan.Goals as goal

pub returns-in-Err : goal.returns-in-Err
returns-in-Err g c = search rules
