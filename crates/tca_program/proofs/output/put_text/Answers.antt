use Rattle.std.proofs.Common.{rules}
use Rattle.tca_program.proofs.output.put_text.Goals as goal

pub returns-clause-done : goal.returns-clause-done
returns-clause-done g c = search rules
