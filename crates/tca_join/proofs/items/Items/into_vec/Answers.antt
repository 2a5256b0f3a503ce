use Rattle.std.proofs.Common.{rules}
use Rattle.tca_join.proofs.items.Items.into_vec.Goals as goal

pub returns-in-Ok : goal.returns-in-Ok
returns-in-Ok g c = search rules
