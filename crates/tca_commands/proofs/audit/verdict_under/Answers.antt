use Rattle.std.proofs.Common.{rules}
use Rattle.tca_commands.proofs.audit.verdict_under.Goals as goal

pub returns-in_err-verdict-clause-refused : goal.returns-in_err-verdict-clause-refused
returns-in_err-verdict-clause-refused c = search rules
