use Rattle.std.proofs.Common.{rules}
use Rattle.tca_commands.proofs.audit.agrees.Goals as goal

pub returns-in-Differs : goal.returns-in-Differs
returns-in-Differs c = search rules
