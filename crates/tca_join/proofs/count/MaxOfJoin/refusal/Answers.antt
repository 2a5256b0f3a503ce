use Rattle.std.proofs.Common.{rules}
use Rattle.tca_join.proofs.count.MaxOfJoin.refusal.Goals as goal

pub returns : goal.returns
returns c = search rules
