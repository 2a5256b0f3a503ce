use Rattle.std.proofs.Common.{arith}
use Rattle.std.proofs.lemmas.Grind.{common_steps}
use Rattle.tca_replay.proofs.lane.reserve_marks.Goals as goal

pub overflow_add-held : goal.overflow_add-held
overflow_add-held g c = grind (arith, common_steps)

pub overflow_mul-every : goal.overflow_mul-every
overflow_mul-every g c = grind (arith, common_steps)

pub returns-then-count-every-clause-items : goal.returns-then-count-every-clause-items
returns-then-count-every-clause-items g c = grind (arith, common_steps)

pub returns-then-count-every-clause-capacity : goal.returns-then-count-every-clause-capacity
returns-then-count-every-clause-capacity g c = grind (arith, common_steps)

pub returns-then-count-every-clause-room : goal.returns-then-count-every-clause-room
returns-then-count-every-clause-room g c = grind (arith, common_steps)

pub nonzero_div-count : goal.nonzero_div-count
nonzero_div-count g c = grind (arith, common_steps)

pub returns-in_err-reserve-clause-items : goal.returns-in_err-reserve-clause-items
returns-in_err-reserve-clause-items g c = grind (arith, common_steps)

pub returns-in_err-reserve-clause-capacity : goal.returns-in_err-reserve-clause-capacity
returns-in_err-reserve-clause-capacity g c = grind (arith, common_steps)

pub returns-in_err-reserve-clause-room : goal.returns-in_err-reserve-clause-room
returns-in_err-reserve-clause-room g c = grind (arith, common_steps)

pub returns-clause-items : goal.returns-clause-items
returns-clause-items g c = grind (arith, common_steps)

pub returns-clause-capacity : goal.returns-clause-capacity
returns-clause-capacity g c = grind (arith, common_steps)

pub returns-clause-room : goal.returns-clause-room
returns-clause-room g c = grind (arith, common_steps)
