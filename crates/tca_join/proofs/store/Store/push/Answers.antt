use Rattle.std.proofs.Common.{rules}
use Rattle.tca_join.proofs.store.Store.push.Goals as goal

pub returns : goal.returns
returns g c = search rules
