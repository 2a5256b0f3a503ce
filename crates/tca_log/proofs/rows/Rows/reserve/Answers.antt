use Rattle.std.proofs.Common.{arith}
use Rattle.std.proofs.lemmas.Grind.{common_steps}
use Rattle.tca_log.proofs.rows.Rows.reserve.Goals as goal

pub spare_for-requires-clause-some : goal.spare_for-requires-clause-some
spare_for-requires-clause-some g c = grind (arith, common_steps)

pub spare_for-requires-clause-small : goal.spare_for-requires-clause-small
spare_for-requires-clause-small g c = grind (arith, common_steps)

pub invariant_of-self : goal.invariant_of-self
invariant_of-self g c = grind (arith, common_steps)

pub returns-in_err-spare_for-clause-rows : goal.returns-in_err-spare_for-clause-rows
returns-in_err-spare_for-clause-rows g c = grind (arith, common_steps)

pub returns-in_err-spare_for-clause-ready : goal.returns-in_err-spare_for-clause-ready
returns-in_err-spare_for-clause-ready g c = grind (arith, common_steps)

pub returns-in_err-spare_for-clause-err : goal.returns-in_err-spare_for-clause-err
returns-in_err-spare_for-clause-err g c = grind (arith, common_steps)

pub returns-in_err-spare_for-clause-refused : goal.returns-in_err-spare_for-clause-refused
returns-in_err-spare_for-clause-refused g c = grind (arith, common_steps)

pub invariant_of-self-in_ok-spare_for : goal.invariant_of-self-in_ok-spare_for
invariant_of-self-in_ok-spare_for g c = grind (arith, common_steps)

pub invariant_of-self-in_ok-spare_for-2 : goal.invariant_of-self-in_ok-spare_for-2
invariant_of-self-in_ok-spare_for-2 g c = grind (arith, common_steps)

pub same-self : goal.same-self
same-self g c = grind (arith, common_steps)

pub returns-in_ok-spare_for-clause-rows : goal.returns-in_ok-spare_for-clause-rows
returns-in_ok-spare_for-clause-rows g c = grind (arith, common_steps)

pub returns-in_ok-spare_for-clause-ready : goal.returns-in_ok-spare_for-clause-ready
returns-in_ok-spare_for-clause-ready g c = grind (arith, common_steps)

pub returns-else-is_none-clause-rows : goal.returns-else-is_none-clause-rows
returns-else-is_none-clause-rows g c = grind (arith, common_steps)

pub returns-else-is_none-clause-ready : goal.returns-else-is_none-clause-ready
returns-else-is_none-clause-ready g c = grind (arith, common_steps)
