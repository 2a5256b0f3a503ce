use Rattle.std.proofs.Common.{arith}
use Rattle.std.proofs.lemmas.Grind.{common_steps}
use Rattle.tca_gossip.proofs.absorb.append_rest.Goals as goal

pub overflow_cast-start : goal.overflow_cast-start
overflow_cast-start c = grind (arith, common_steps)

pub offset_bounds-reports-skip : goal.offset_bounds-reports-skip
offset_bounds-reports-skip c = grind (arith, common_steps)

pub slice_bounds-append_all-count : goal.slice_bounds-append_all-count
slice_bounds-append_all-count c = grind (arith, common_steps)

pub slice_bounds-append_all-start : goal.slice_bounds-append_all-start
slice_bounds-append_all-start c = grind (arith, common_steps)

pub slice_bounds-append_all-end : goal.slice_bounds-append_all-end
slice_bounds-append_all-end c = grind (arith, common_steps)

pub append_all-requires-clause-own : goal.append_all-requires-clause-own
append_all-requires-clause-own c = grind (arith, common_steps)

pub append_all-requires-clause-few : goal.append_all-requires-clause-few
append_all-requires-clause-few c = grind (arith, common_steps)

pub returns-clause-state : goal.returns-clause-state
returns-clause-state c = grind (arith, common_steps)

pub returns-clause-count : goal.returns-clause-count
returns-clause-count c = grind (arith, common_steps)

pub returns-clause-stop : goal.returns-clause-stop
returns-clause-stop c = grind (arith, common_steps)
