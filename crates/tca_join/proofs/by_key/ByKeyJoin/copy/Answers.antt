use Rattle.std.proofs.Common.{rules}
use Rattle.tca_join.proofs.by_key.ByKeyJoin.copy.Goals as goal

pub returns : goal.returns
returns g c = search rules
