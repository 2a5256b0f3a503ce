use Rattle.std.proofs.Common.{rules}
use Rattle.tca_join.proofs.count.MaxOfJoin.join_from.Goals as goal

pub returns-clause-ok : goal.returns-clause-ok
returns-clause-ok c = search rules
