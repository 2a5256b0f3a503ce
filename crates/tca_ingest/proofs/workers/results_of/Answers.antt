use Rattle.std.proofs.Common.{arith}
use Rattle.std.proofs.lemmas.Grind.{common_steps}
use Rattle.tca_ingest.proofs.Collecting.{run_of_jobs}
use Rattle.tca_ingest.proofs.workers.results_of.Goals as goal

pub jobs_of-requires : goal.jobs_of-requires
jobs_of-requires g c = grind (arith, common_steps)

pub returns-in_err-jobs-clause-done : goal.returns-in_err-jobs-clause-done
returns-in_err-jobs-clause-done g c = grind (arith, common_steps)

pub returns-in_err-jobs-clause-jobs : goal.returns-in_err-jobs-clause-jobs
returns-in_err-jobs-clause-jobs g c = grind (arith, common_steps)

pub returns-in_err-jobs-clause-kept : goal.returns-in_err-jobs-clause-kept
returns-in_err-jobs-clause-kept g c = grind (arith, common_steps)

pub returns-in_err-jobs-clause-fault : goal.returns-in_err-jobs-clause-fault
returns-in_err-jobs-clause-fault g c = grind (arith, common_steps)

pub returns-in_err-ends-clause-done : goal.returns-in_err-ends-clause-done
returns-in_err-ends-clause-done g c = grind (arith, common_steps)

pub returns-in_err-ends-clause-jobs : goal.returns-in_err-ends-clause-jobs
returns-in_err-ends-clause-jobs g c = grind (arith, common_steps)

pub returns-in_err-ends-clause-kept : goal.returns-in_err-ends-clause-kept
returns-in_err-ends-clause-kept g c = grind (arith, common_steps)

pub returns-in_err-ends-clause-fault : goal.returns-in_err-ends-clause-fault
returns-in_err-ends-clause-fault g c = grind (arith, common_steps)

pub returns-in_err-run_all-clause-done : goal.returns-in_err-run_all-clause-done
returns-in_err-run_all-clause-done g c = grind (arith, common_steps)

pub returns-in_err-run_all-clause-jobs : goal.returns-in_err-run_all-clause-jobs
returns-in_err-run_all-clause-jobs g c = grind (arith, common_steps)

pub returns-in_err-run_all-clause-kept : goal.returns-in_err-run_all-clause-kept
returns-in_err-run_all-clause-kept g c = grind (arith, common_steps)

pub returns-in_err-run_all-clause-fault : goal.returns-in_err-run_all-clause-fault
returns-in_err-run_all-clause-fault g c = grind (arith, common_steps)

pub returns-then-load-clause-kept : goal.returns-then-load-clause-kept
returns-then-load-clause-kept g c = grind (arith, common_steps)

pub returns-then-load-clause-fault : goal.returns-then-load-clause-fault
returns-then-load-clause-fault g c = grind (arith, common_steps)

pub collect-requires : goal.collect-requires
collect-requires g c = grind (arith, common_steps)

pub returns-clause-done : goal.returns-clause-done
returns-clause-done g c = grind (arith, common_steps)

pub returns-clause-jobs : goal.returns-clause-jobs
returns-clause-jobs g c = grind (arith, common_steps)

pub returns-clause-kept : goal.returns-clause-kept
returns-clause-kept g c = grind (arith, common_steps)

pub returns-clause-fault : goal.returns-clause-fault
returns-clause-fault g c = grind (arith, common_steps)

pub returns-in_err-run_all-clause-missing : goal.returns-in_err-run_all-clause-missing
returns-in_err-run_all-clause-missing g c = grind (arith, common_steps, run_of_jobs)
