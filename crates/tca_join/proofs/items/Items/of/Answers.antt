use Rattle.std.proofs.lemmas.Grind.{common_steps}
use Rattle.std.proofs.Common.{arith}
use Rattle.tca_join.proofs.items.Items.of.Goals as goal

pub returns : goal.returns
returns g c = grind (arith, common_steps)
