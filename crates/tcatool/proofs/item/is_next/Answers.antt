use Rattle.std.proofs.Common.{rules}
use Rattle.tcatool.proofs.item.is_next.Goals as goal

pub returns-in-None : goal.returns-in-None
returns-in-None c = search rules
