use Rattle.std.proofs.Common.{rules}
use Rattle.tca_program.proofs.arguments.named.Goals as goal

pub returns-clause-command : goal.returns-clause-command
returns-clause-command c = search rules
