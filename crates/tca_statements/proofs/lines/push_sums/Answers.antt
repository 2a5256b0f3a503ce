use Rattle.std.proofs.Common.{rules}
use Rattle.tca_statements.proofs.lines.push_sums.Goals as goal

pub returns : goal.returns
returns c = search rules
