use Rattle.std.proofs.Common.{rules}
use Rattle.tca_join.proofs.chain.Chain.push.Goals as goal

pub returns : goal.returns
returns g c = search rules
