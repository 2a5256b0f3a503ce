use Rattle.std.proofs.Common.{rules}
use Rattle.tca_program.proofs.files.read_asked.Goals as goal

pub returns-in-Err-clause-refused : goal.returns-in-Err-clause-refused
returns-in-Err-clause-refused g c = search rules
