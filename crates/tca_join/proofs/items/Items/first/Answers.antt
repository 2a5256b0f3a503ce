use Rattle.std.proofs.lemmas.Grind.{common_steps}
use Rattle.std.proofs.Common.{arith}
use Rattle.tca_join.proofs.items.Items.first.Goals as goal

pub returns-then-count-self : goal.returns-then-count-self
returns-then-count-self g c = grind (arith, common_steps)
