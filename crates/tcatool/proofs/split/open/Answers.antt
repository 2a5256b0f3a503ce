use Rattle.std.proofs.Common.{rules}
use Rattle.tcatool.proofs.split.open.Goals as goal

pub returns-in-Err : goal.returns-in-Err
returns-in-Err g c = search rules
