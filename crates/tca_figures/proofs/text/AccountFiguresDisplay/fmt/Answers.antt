use Rattle.std.proofs.lemmas.Grind.{common_steps}
use Rattle.std.proofs.Common.{arith}
use Rattle.tca_figures.proofs.text.AccountFiguresDisplay.fmt.Goals as goal

pub loop-span-init : goal.loop-span-init
loop-span-init g c = grind (arith, common_steps)

pub loop-span-preserved : goal.loop-span-preserved
loop-span-preserved g c = grind (arith, common_steps)

pub returns-clause-writes : goal.returns-clause-writes
returns-clause-writes g c = grind (arith, common_steps)
