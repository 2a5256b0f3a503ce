use Rattle.std.proofs.Common.{rules}
use Rattle.tca_program.proofs.fault.Family.name.Goals as goal

pub returns-in-Limits : goal.returns-in-Limits
returns-in-Limits c = search rules
