use Rattle.std.proofs.Common.{rules}
use Rattle.tca_commands.proofs.line.bill_line.Goals as goal

pub returns-clause-line : goal.returns-clause-line
returns-clause-line c = search rules
