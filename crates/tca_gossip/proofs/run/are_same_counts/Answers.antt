use Rattle.std.proofs.Common.{arith}
use Rattle.std.proofs.lemmas.Grind.{common_steps}
use Rattle.tca_gossip.proofs.run.are_same_counts.Goals as goal

pub returns-then-ours-theirs : goal.returns-then-ours-theirs
returns-then-ours-theirs c = grind (arith, common_steps)

pub loop-i-init : goal.loop-i-init
loop-i-init c = grind (arith, common_steps)

pub offset_bounds-ours-i : goal.offset_bounds-ours-i
offset_bounds-ours-i c = grind (arith, common_steps)

pub bounds-ours-i : goal.bounds-ours-i
bounds-ours-i c = grind (arith, common_steps)

pub offset_bounds-theirs-i : goal.offset_bounds-theirs-i
offset_bounds-theirs-i c = grind (arith, common_steps)

pub bounds-theirs-i : goal.bounds-theirs-i
bounds-theirs-i c = grind (arith, common_steps)

pub returns-then-one-other : goal.returns-then-one-other
returns-then-one-other c = grind (arith, common_steps)

pub loop-i-preserved : goal.loop-i-preserved
loop-i-preserved c = grind (arith, common_steps)

pub returns : goal.returns
returns c = grind (arith, common_steps)
