use Rattle.tca_commands.proofs.RefusalLaws.{of_absorb}
use Rattle.tca_commands.proofs.refusals.of_absorb.Goals as goal

pub returns-in-Err-clause-refused : goal.returns-in-Err-clause-refused
returns-in-Err-clause-refused c = of_absorb c.from.result c.in-Err.fault c.from.ensures
