use Rattle.std.proofs.Common.{arith}
use Rattle.std.proofs.lemmas.Grind.{common_steps}
use Rattle.tca_commands.proofs.commands.number_up_to.Goals as goal

pub value_parser-requires : goal.value_parser-requires
value_parser-requires c κs = grind (arith, common_steps)

pub returns-clause-rule : goal.returns-clause-rule
returns-clause-rule c = grind (arith, common_steps)

pub returns-clause-local : goal.returns-clause-local
returns-clause-local c = grind (arith, common_steps)
