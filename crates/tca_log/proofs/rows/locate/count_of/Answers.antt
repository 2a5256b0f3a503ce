use Rattle.std.proofs.Common.{arith}
use Rattle.std.proofs.lemmas.Grind.{common_steps}
use Rattle.tca_log.proofs.rows.locate.count_of.Goals as goal

pub loop-chunk-init : goal.loop-chunk-init
loop-chunk-init g c = grind (arith, common_steps)

pub offset_bounds-chunks-chunk-index : goal.offset_bounds-chunks-chunk-index
offset_bounds-chunks-chunk-index g c = grind (arith, common_steps)

pub overflow_add-count : goal.overflow_add-count
overflow_add-count g c = grind (arith, common_steps)

pub loop-chunk-preserved : goal.loop-chunk-preserved
loop-chunk-preserved g c = grind (arith, common_steps)

pub returns : goal.returns
returns g c = grind (arith, common_steps)
