use Rattle.std.proofs.Common.{arith}
use Rattle.std.proofs.lemmas.Grind.{common_steps}
use Rattle.tca_log.proofs.rows.cut_list.Goals as goal

pub index-requires : goal.index-requires
index-requires g c = grind (arith, common_steps)

pub index-requires-then-len-gt-CHUNK : goal.index-requires-then-len-gt-CHUNK
index-requires-then-len-gt-CHUNK g c = grind (arith, common_steps)

pub returns-in_err-chunks-clause-joined : goal.returns-in_err-chunks-clause-joined
returns-in_err-chunks-clause-joined g c = grind (arith, common_steps)

pub returns-in_err-chunks-clause-some : goal.returns-in_err-chunks-clause-some
returns-in_err-chunks-clause-some g c = grind (arith, common_steps)

pub returns-in_err-chunks-clause-small : goal.returns-in_err-chunks-clause-small
returns-in_err-chunks-clause-small g c = grind (arith, common_steps)

pub returns-in_err-chunks-clause-err : goal.returns-in_err-chunks-clause-err
returns-in_err-chunks-clause-err g c = grind (arith, common_steps)

pub returns-in_ok-chunks-clause-joined : goal.returns-in_ok-chunks-clause-joined
returns-in_ok-chunks-clause-joined g c = grind (arith, common_steps)

pub returns-in_ok-chunks-clause-some : goal.returns-in_ok-chunks-clause-some
returns-in_ok-chunks-clause-some g c = grind (arith, common_steps)

pub returns-in_ok-chunks-clause-small : goal.returns-in_ok-chunks-clause-small
returns-in_ok-chunks-clause-small g c = grind (arith, common_steps)

pub returns-else-len-eq1-clause-joined : goal.returns-else-len-eq1-clause-joined
returns-else-len-eq1-clause-joined g c = grind (arith, common_steps)

pub returns-else-len-eq1-clause-some : goal.returns-else-len-eq1-clause-some
returns-else-len-eq1-clause-some g c = grind (arith, common_steps)

pub returns-else-len-eq1-clause-small : goal.returns-else-len-eq1-clause-small
returns-else-len-eq1-clause-small g c = grind (arith, common_steps)
