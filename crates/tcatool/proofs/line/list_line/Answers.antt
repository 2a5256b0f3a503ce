use Rattle.std.proofs.Common.{rules}
use Rattle.tcatool.proofs.line.list_line.Goals as goal

pub returns : goal.returns
returns c = search rules
