use Rattle.std.proofs.Common.{rules}
use Rattle.tca_commands.proofs.replicated.check_held.Goals as goal

pub returns-then-not-are_all_of-clause-differs : goal.returns-then-not-are_all_of-clause-differs
returns-then-not-are_all_of-clause-differs c = search rules

pub returns-clause-held : goal.returns-clause-held
returns-clause-held c = search rules
