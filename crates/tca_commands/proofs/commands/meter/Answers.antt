use Rattle.std.proofs.Common.{arith}
use Rattle.std.proofs.lemmas.Grind.{common_steps}
use Rattle.tca_commands.proofs.commands.meter.Goals as goal

pub many_words-requires : goal.many_words-requires
many_words-requires c = grind (arith, common_steps)

pub returns-in_err-command : goal.returns-in_err-command
returns-in_err-command c = grind (arith, common_steps)

pub returns-in_err-arg : goal.returns-in_err-arg
returns-in_err-arg c = grind (arith, common_steps)
