use Rattle.tca_commands.proofs.RefusalLaws.{of_work}
use Rattle.tca_commands.proofs.refusals.of_workers.Goals as goal

pub returns-in-Err-clause-refused : goal.returns-in-Err-clause-refused
returns-in-Err-clause-refused g c = of_work c.from.result c.in-Err.refused.fault c.from.ensures
