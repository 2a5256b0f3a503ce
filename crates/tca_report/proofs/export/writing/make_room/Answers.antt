use Rattle.std.proofs.Common.{arith}
use Rattle.std.proofs.lemmas.Grind.{common_steps}
use Rattle.tca_report.proofs.export.writing.make_room.Goals as goal

pub returns-in_err-total-clause-room : goal.returns-in_err-total-clause-room
returns-in_err-total-clause-room g c = grind (arith, common_steps)

pub returns-in_err-total-clause-more : goal.returns-in_err-total-clause-more
returns-in_err-total-clause-more g c = grind (arith, common_steps)

pub returns-in_err-total-clause-total : goal.returns-in_err-total-clause-total
returns-in_err-total-clause-total g c = grind (arith, common_steps)

pub returns-in_err-total-clause-sent : goal.returns-in_err-total-clause-sent
returns-in_err-total-clause-sent g c = grind (arith, common_steps)

pub returns-in_err-total-clause-kept : goal.returns-in_err-total-clause-kept
returns-in_err-total-clause-kept g c = grind (arith, common_steps)

pub returns-in_err-total-clause-after : goal.returns-in_err-total-clause-after
returns-in_err-total-clause-after g c = grind (arith, common_steps)

pub returns-in_err-total-clause-part : goal.returns-in_err-total-clause-part
returns-in_err-total-clause-part g c = grind (arith, common_steps)

pub returns-in_err-total-clause-went : goal.returns-in_err-total-clause-went
returns-in_err-total-clause-went g c = grind (arith, common_steps)

pub returns-in_err-total-clause-count : goal.returns-in_err-total-clause-count
returns-in_err-total-clause-count g c = grind (arith, common_steps)

pub returns-clause-room : goal.returns-clause-room
returns-clause-room g c = grind (arith, common_steps)

pub returns-clause-more : goal.returns-clause-more
returns-clause-more g c = grind (arith, common_steps)

pub returns-clause-total : goal.returns-clause-total
returns-clause-total g c = grind (arith, common_steps)

pub returns-clause-sent : goal.returns-clause-sent
returns-clause-sent g c = grind (arith, common_steps)

pub returns-clause-kept : goal.returns-clause-kept
returns-clause-kept g c = grind (arith, common_steps)

pub returns-clause-after : goal.returns-clause-after
returns-clause-after g c = grind (arith, common_steps)

pub returns-clause-part : goal.returns-clause-part
returns-clause-part g c = grind (arith, common_steps)

pub returns-clause-went : goal.returns-clause-went
returns-clause-went g c = grind (arith, common_steps)

pub returns-clause-count : goal.returns-clause-count
returns-clause-count g c = grind (arith, common_steps)
