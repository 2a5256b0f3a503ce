use Rattle.std.proofs.lemmas.Grind.{common_steps}
use Rattle.std.proofs.Common.{arith}
use Rattle.tca_log.proofs.OrderedRows.Ranks.{passed}
use Rattle.tca_log.proofs.rows.locate.from_row.Goals as goal

pub loop-at-preserved : goal.loop-at-preserved
loop-at-preserved g c =
    let next = passed c.args.chunks.now c.loop-at.at c.loop-at.left c.index-chunks-at.result _ (omega arith) c.index-chunks-at.is (omega (arith, c.len-size.ensures)) c.loop-at.invariant.rest c.loop-at.invariant.left in
    rw c.len-size.ensures (record { rest = next.0; left = next.1; inside = omega arith })

pub loop-at-init : goal.loop-at-init
loop-at-init g c = grind (arith, common_steps)

pub offset_bounds-chunks-at : goal.offset_bounds-chunks-at
offset_bounds-chunks-at g c = grind (arith, common_steps)

pub bounds-chunks-at : goal.bounds-chunks-at
bounds-chunks-at g c = grind (arith, common_steps)

pub offset_bounds-rows-left : goal.offset_bounds-rows-left
offset_bounds-rows-left g c = grind (arith, common_steps)

pub slice_bounds-new-count : goal.slice_bounds-new-count
slice_bounds-new-count g c = grind (arith, common_steps)

pub slice_bounds-new-start : goal.slice_bounds-new-start
slice_bounds-new-start g c = grind (arith, common_steps)

pub slice_bounds-new-end : goal.slice_bounds-new-end
slice_bounds-new-end g c = grind (arith, common_steps)

pub overflow_add-at : goal.overflow_add-at
overflow_add-at g c = grind (arith, common_steps)

pub offset_bounds-chunks-at-then-left-size : goal.offset_bounds-chunks-at-then-left-size
offset_bounds-chunks-at-then-left-size g c = grind (arith, common_steps)

pub slice_bounds-new-count-then-left-size : goal.slice_bounds-new-count-then-left-size
slice_bounds-new-count-then-left-size g c = grind (arith, common_steps)

pub slice_bounds-new-start-then-left-size : goal.slice_bounds-new-start-then-left-size
slice_bounds-new-start-then-left-size g c = grind (arith, common_steps)

pub slice_bounds-new-end-then-left-size : goal.slice_bounds-new-end-then-left-size
slice_bounds-new-end-then-left-size g c = grind (arith, common_steps)

pub returns-then-left-size : goal.returns-then-left-size
returns-then-left-size g c = grind (arith, common_steps)

pub overflow_add-at-in-loop-at : goal.overflow_add-at-in-loop-at
overflow_add-at-in-loop-at g c = grind (arith, common_steps)

pub loop-at-smaller : goal.loop-at-smaller
loop-at-smaller g c = grind (arith, common_steps)

pub slice_bounds-new-end-2 : goal.slice_bounds-new-end-2
slice_bounds-new-end-2 g c = grind (arith, common_steps)

pub slice_bounds-new-end-3 : goal.slice_bounds-new-end-3
slice_bounds-new-end-3 g c = grind (arith, common_steps)

pub returns : goal.returns
returns g c = grind (arith, common_steps)
