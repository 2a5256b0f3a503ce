use Rattle.std.proofs.Common.{rules}
use Rattle.tca_program.proofs.fault.RunFault.log.Goals as goal

pub returns : goal.returns
returns c = search rules
