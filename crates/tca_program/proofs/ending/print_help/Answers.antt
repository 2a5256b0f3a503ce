use Rattle.std.proofs.Common.{rules}
use Rattle.tca_program.proofs.ending.print_help.Goals as goal

pub returns-in-Help-clause-help : goal.returns-in-Help-clause-help
returns-in-Help-clause-help g c = search rules
