use Rattle.std.proofs.Common.{rules}
use Rattle.tca_program.proofs.ending.Ending.status.Goals as goal

pub returns-in-Refused : goal.returns-in-Refused
returns-in-Refused c = search rules
