use Rattle.std.proofs.Common.{arith}
use Rattle.std.proofs.lemmas.Grind.{common_steps}
use Rattle.tca_ingest.proofs.collect.add_calls.Goals as goal

pub loop-entry-init : goal.loop-entry-init
loop-entry-init c = grind (arith, common_steps)

pub offset_bounds-calls-entry-index : goal.offset_bounds-calls-entry-index
offset_bounds-calls-entry-index c = grind (arith, common_steps)

pub returns-in_err-push : goal.returns-in_err-push
returns-in_err-push c = grind (arith, common_steps)

pub loop-entry-preserved : goal.loop-entry-preserved
loop-entry-preserved c = grind (arith, common_steps)

pub returns : goal.returns
returns c = grind (arith, common_steps)
