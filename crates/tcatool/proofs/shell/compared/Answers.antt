use Rattle.std.proofs.Common.{rules}
use Rattle.tcatool.proofs.shell.compared.Goals as goal

pub returns-then-differences-eq0-2 : goal.returns-then-differences-eq0-2
returns-then-differences-eq0-2 g c = search rules
