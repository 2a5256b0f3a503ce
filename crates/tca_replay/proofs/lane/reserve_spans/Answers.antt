use Rattle.std.proofs.Common.{arith, rules}
use Rattle.std.proofs.lemmas.Grind.{common_steps}
use Rattle.tca_replay.proofs.lane.reserve_spans.Goals as goal

pub returns-then-count-capacity-clause-items : goal.returns-then-count-capacity-clause-items
returns-then-count-capacity-clause-items g c = grind (arith, common_steps)

pub returns-then-count-capacity-clause-capacity : goal.returns-then-count-capacity-clause-capacity
returns-then-count-capacity-clause-capacity g c = grind (arith, common_steps)

pub returns-then-count-capacity-clause-room : goal.returns-then-count-capacity-clause-room
returns-then-count-capacity-clause-room g c = grind (arith, common_steps)

pub returns-in_err-roomier-clause-items : goal.returns-in_err-roomier-clause-items
returns-in_err-roomier-clause-items g c = grind (arith, common_steps)

pub returns-in_err-roomier-clause-capacity : goal.returns-in_err-roomier-clause-capacity
returns-in_err-roomier-clause-capacity g c = grind (arith, common_steps)

pub returns-in_err-roomier-clause-room : goal.returns-in_err-roomier-clause-room
returns-in_err-roomier-clause-room g c = grind (arith, common_steps)

pub returns-clause-items : goal.returns-clause-items
returns-clause-items g c = grind (arith, common_steps)

pub returns-clause-capacity : goal.returns-clause-capacity
returns-clause-capacity g c = grind (arith, common_steps)

pub returns-clause-room : goal.returns-clause-room
returns-clause-room g c = grind (arith, common_steps)

pub returns-clause-ample : goal.returns-clause-ample
returns-clause-ample g c = search rules
