use Rattle.std.proofs.Common.{rules}
use Rattle.tca_join.proofs.by_key.ByKey.keys.Goals as goal

pub returns-clause-keys : goal.returns-clause-keys
returns-clause-keys g c = search rules
