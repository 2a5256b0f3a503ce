use Rattle.std.proofs.Common.{arith}
use Rattle.std.proofs.lemmas.Grind.{common_steps}
use Rattle.tca_meters.proofs.spec.trtcm_of.Goals as goal

pub returns-in_err-pir : goal.returns-in_err-pir
returns-in_err-pir c = grind (arith, common_steps)

pub returns-in_err-parts : goal.returns-in_err-parts
returns-in_err-parts c = grind (arith, common_steps)

pub returns-in_err-pir-2 : goal.returns-in_err-pir-2
returns-in_err-pir-2 c = grind (arith, common_steps)

pub returns-in_err-pbs : goal.returns-in_err-pbs
returns-in_err-pbs c = grind (arith, common_steps)

pub returns-in_err-cir : goal.returns-in_err-cir
returns-in_err-cir c = grind (arith, common_steps)

pub returns-in_err-cbs : goal.returns-in_err-cbs
returns-in_err-cbs c = grind (arith, common_steps)

pub returns-in_err-aware : goal.returns-in_err-aware
returns-in_err-aware c = grind (arith, common_steps)

pub returns : goal.returns
returns c = grind (arith, common_steps)
