use Rattle.std.proofs.Common.{rules}
use Rattle.tca_program.proofs.fault.RunFault.input.Goals as goal

pub returns-in-Decode-clause-fault : goal.returns-in-Decode-clause-fault
returns-in-Decode-clause-fault c = search rules
