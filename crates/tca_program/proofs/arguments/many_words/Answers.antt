use Rattle.std.proofs.Common.{rules}
use Rattle.tca_program.proofs.arguments.many_words.Goals as goal

pub returns-clause-rule : goal.returns-clause-rule
returns-clause-rule c = search rules
