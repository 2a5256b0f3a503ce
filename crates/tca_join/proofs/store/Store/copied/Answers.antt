use Rattle.std.proofs.Common.{rules}
use Rattle.tca_join.proofs.store.Store.copied.Goals as goal

pub returns-clause-items : goal.returns-clause-items
returns-clause-items g c = search rules
