use Rattle.std.proofs.Common.{arith, rules}
use Rattle.std.proofs.lemmas.Grind.{common_steps}
use Rattle.tca_wire.proofs.framer.frame_length.Goals as goal

pub returns-clause-frame : goal.returns-clause-frame
returns-clause-frame c = grind (arith, common_steps)

pub returns-in_err-length-clause-fault : goal.returns-in_err-length-clause-fault
returns-in_err-length-clause-fault c = search rules
