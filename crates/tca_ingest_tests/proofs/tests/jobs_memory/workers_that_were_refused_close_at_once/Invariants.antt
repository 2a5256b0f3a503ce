use Rattle.tca_ingest_tests.proofs.tests.jobs_memory.workers_that_were_refused_close_at_once.Given as goal

abbrev pub ghosts-works_once-L-Ledger : goal.ghosts-works_once-L-Ledger
ghosts-works_once-L-Ledger g a = record { name = a.blank.name; parts = a.blank.parts }

abbrev pub ghosts-works_once-L-Side : goal.ghosts-works_once-L-Side
ghosts-works_once-L-Side g a = record { plan = a.plan; called = a.name }
