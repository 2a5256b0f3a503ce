use Rattle.std.proofs.Common.{arith}
use Rattle.std.proofs.lemmas.Grind.{common_steps}
use Rattle.tca_ingest.proofs.held.Held.pass.Goals as goal

pub same-self : goal.same-self
same-self g c = grind (arith, common_steps)

pub returns-then-self-ge-MOST_PASSES-clause-out : goal.returns-then-self-ge-MOST_PASSES-clause-out
returns-then-self-ge-MOST_PASSES-clause-out g c = grind (arith, common_steps)

pub returns-then-self-ge-MOST_PASSES-clause-err : goal.returns-then-self-ge-MOST_PASSES-clause-err
returns-then-self-ge-MOST_PASSES-clause-err g c = grind (arith, common_steps)

pub split_off-share-requires-clause-has_parts : goal.split_off-share-requires-clause-has_parts
split_off-share-requires-clause-has_parts g c = grind (arith, common_steps)

pub split_off-share-requires-clause-has_amount : goal.split_off-share-requires-clause-has_amount
split_off-share-requires-clause-has_amount g c = grind (arith, common_steps)

pub split_off-share-requires-clause-left_backed : goal.split_off-share-requires-clause-left_backed
split_off-share-requires-clause-left_backed g c = grind (arith, common_steps)

pub overflow_add-self : goal.overflow_add-self
overflow_add-self g c = grind (arith, common_steps)

pub new-requires : goal.new-requires
new-requires g c = grind (arith, common_steps)

pub invariant_of-self : goal.invariant_of-self
invariant_of-self g c = grind (arith, common_steps)

pub returns-clause-made : goal.returns-clause-made
returns-clause-made g c = grind (arith, common_steps)

pub returns-clause-ok : goal.returns-clause-ok
returns-clause-ok g c = grind (arith, common_steps)

pub returns-clause-out : goal.returns-clause-out
returns-clause-out g c = grind (arith, common_steps)
