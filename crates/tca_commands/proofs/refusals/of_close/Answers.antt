use Rattle.tca_commands.proofs.RefusalLaws.{of_close}
use Rattle.tca_commands.proofs.refusals.of_close.Goals as goal

pub returns-in-Err-clause-refused : goal.returns-in-Err-clause-refused
returns-in-Err-clause-refused g c = of_close c.from.result c.in-Err.unclosed.fault c.from.ensures
