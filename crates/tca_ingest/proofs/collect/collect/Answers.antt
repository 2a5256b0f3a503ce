use Rattle.std.proofs.Common.{arith, length}
use Rattle.std.proofs.lemmas.Result.{IfErr-weaker}
use Rattle.tca_ingest.specs.Works.{IsOfJobs, IsPlaceFault}
use Rattle.tca_ingest.proofs.Collecting.{place_of_jobs}
use Rattle.std.proofs.lemmas.Grind.{common_steps}
use Rattle.tca_ingest.proofs.collect.collect.Goals as goal

pub returns-in_err-places-clause-done : goal.returns-in_err-places-clause-done
returns-in_err-places-clause-done g c = grind (arith, common_steps)

pub returns-in_err-places-clause-jobs : goal.returns-in_err-places-clause-jobs
returns-in_err-places-clause-jobs g c = grind (arith, common_steps)

pub returns-in_err-places-clause-fault : goal.returns-in_err-places-clause-fault
returns-in_err-places-clause-fault g c = grind (arith, common_steps)

pub loop-init : goal.loop-init
loop-init g c = grind (arith, common_steps)

pub fill_place-requires : goal.fill_place-requires
fill_place-requires g c = grind (arith, common_steps)

pub loop-preserved : goal.loop-preserved
loop-preserved g c = grind (arith, common_steps)

pub returns-in_err-fill_place-clause-done : goal.returns-in_err-fill_place-clause-done
returns-in_err-fill_place-clause-done g c = grind (arith, common_steps)

pub returns-in_err-fill_place-clause-jobs : goal.returns-in_err-fill_place-clause-jobs
returns-in_err-fill_place-clause-jobs g c = grind (arith, common_steps)

pub returns-in_err-fill_place-clause-fault : goal.returns-in_err-fill_place-clause-fault
returns-in_err-fill_place-clause-fault g c = grind (arith, common_steps)

pub filled-requires-clause-results : goal.filled-requires-clause-results
filled-requires-clause-results g c = grind (arith, common_steps)

pub filled-requires-clause-count : goal.filled-requires-clause-count
filled-requires-clause-count g c = grind (arith, common_steps)

pub returns-clause-done : goal.returns-clause-done
returns-clause-done g c = grind (arith, common_steps)

pub returns-clause-jobs : goal.returns-clause-jobs
returns-clause-jobs g c = grind (arith, common_steps)

pub returns-clause-fault : goal.returns-clause-fault
returns-clause-fault g c = grind (arith, common_steps)

pub returns-clause-missing : goal.returns-clause-missing
returns-clause-missing g c =
    let places = c.loop.places.items in
    IfErr-weaker c.filled.result (IsPlaceFault places) (IsOfJobs (length c.args.inputs.now)) (λ f is. place_of_jobs c.args.inputs.now places f c.loop.invariant.2 is) c.filled.ensures.missing
