use Rattle.std.proofs.Common.{arith}
use Rattle.std.proofs.lemmas.Grind.{common_steps}
use Rattle.tca_commands.proofs.replicas.absorb_lacking.Goals as goal

pub returns-in_err-asked-clause-absorbs : goal.returns-in_err-asked-clause-absorbs
returns-in_err-asked-clause-absorbs g c = grind (arith, common_steps)

pub returns-in_err-asked-clause-refused : goal.returns-in_err-asked-clause-refused
returns-in_err-asked-clause-refused g c = grind (arith, common_steps)

pub unreachable-requires : goal.unreachable-requires
unreachable-requires g c = grind (arith, common_steps)

pub unreachable-unreachable : goal.unreachable-unreachable
unreachable-unreachable g c = grind (arith, common_steps)

pub returns-in_err-delta-clause-absorbs : goal.returns-in_err-delta-clause-absorbs
returns-in_err-delta-clause-absorbs g c = grind (arith, common_steps)

pub returns-in_err-delta-clause-refused : goal.returns-in_err-delta-clause-refused
returns-in_err-delta-clause-refused g c = grind (arith, common_steps)

pub returns-in_err-receipt-clause-absorbs : goal.returns-in_err-receipt-clause-absorbs
returns-in_err-receipt-clause-absorbs g c = grind (arith, common_steps)

pub returns-in_err-receipt-clause-refused : goal.returns-in_err-receipt-clause-refused
returns-in_err-receipt-clause-refused g c = grind (arith, common_steps)

pub unreachable-requires-in_default-entry : goal.unreachable-requires-in_default-entry
unreachable-requires-in_default-entry g c = grind (arith, common_steps)

pub unreachable-unreachable-in_default-entry : goal.unreachable-unreachable-in_default-entry
unreachable-unreachable-in_default-entry g c = grind (arith, common_steps)

pub returns-in_err-of_absorb-clause-absorbs : goal.returns-in_err-of_absorb-clause-absorbs
returns-in_err-of_absorb-clause-absorbs g c = grind (arith, common_steps)

pub returns-in_err-of_absorb-clause-refused : goal.returns-in_err-of_absorb-clause-refused
returns-in_err-of_absorb-clause-refused g c = grind (arith, common_steps)

pub returns-clause-absorbs : goal.returns-clause-absorbs
returns-clause-absorbs g c = grind (arith, common_steps)
