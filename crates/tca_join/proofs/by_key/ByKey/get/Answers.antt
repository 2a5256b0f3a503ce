use Rattle.std.proofs.Common.{rules}
use Rattle.tca_join.proofs.by_key.ByKey.get.Goals as goal

pub returns-in-Ok : goal.returns-in-Ok
returns-in-Ok g c = search rules
