use Rattle.std.proofs.Common.{rules}
use Rattle.tca_program.proofs.ending.write_line.Goals as goal

pub returns : goal.returns
returns g c = search rules
