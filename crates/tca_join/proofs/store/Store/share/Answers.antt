use Rattle.std.proofs.Common.{rules}
use Rattle.tca_join.proofs.store.Store.share.Goals as goal

pub returns-in_ok-copied-in-Own : goal.returns-in_ok-copied-in-Own
returns-in_ok-copied-in-Own g c = search rules
