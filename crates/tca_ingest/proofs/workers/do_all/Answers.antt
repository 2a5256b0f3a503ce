use Rattle.tca_ingest.proofs.Collecting.{entries_of_jobs}
use Rattle.tca_ingest.proofs.workers.do_all.Goals as goal

pub returns-in-Some-clause-missing : goal.returns-in-Some-clause-missing
returns-in-Some-clause-missing g c = entries_of_jobs _ _ _ _ c.in-Some.ensures.stranger
