use Rattle.std.proofs.Common.{arith}
use Rattle.std.proofs.lemmas.Grind.{common_steps}
use Rattle.tca_ingest.proofs.fitting.audit.Goals as goal

pub loop-pass-init : goal.loop-pass-init
loop-pass-init g c = grind (arith, common_steps)

pub loop-pass-smaller : goal.loop-pass-smaller
loop-pass-smaller g c = grind (arith, common_steps)

pub loop-pass-preserved : goal.loop-pass-preserved
loop-pass-preserved g c = grind (arith, common_steps)

pub returns : goal.returns
returns g c = grind (arith, common_steps)
