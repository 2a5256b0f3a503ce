use Rattle.std.proofs.Common.{arith}
use Rattle.std.proofs.lemmas.Grind.{common_steps}
use Rattle.tca_meters.proofs.spec.srtcm_of.Goals as goal

pub returns-in_err-parts : goal.returns-in_err-parts
returns-in_err-parts c = grind (arith, common_steps)

pub returns-in_err-cir : goal.returns-in_err-cir
returns-in_err-cir c = grind (arith, common_steps)

pub returns-in_err-cbs : goal.returns-in_err-cbs
returns-in_err-cbs c = grind (arith, common_steps)

pub returns-in_err-ebs : goal.returns-in_err-ebs
returns-in_err-ebs c = grind (arith, common_steps)

pub returns-in_err-aware : goal.returns-in_err-aware
returns-in_err-aware c = grind (arith, common_steps)

pub returns : goal.returns
returns c = grind (arith, common_steps)
