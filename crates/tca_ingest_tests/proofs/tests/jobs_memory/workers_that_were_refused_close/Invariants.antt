use Rattle.tca_ingest_tests.proofs.tests.jobs_memory.workers_that_were_refused_close.Given as goal

abbrev pub ghosts-works_and_closes-L-Ledger : goal.ghosts-works_and_closes-L-Ledger
ghosts-works_and_closes-L-Ledger g a = record { name = a.blank.name; parts = a.blank.parts }

abbrev pub ghosts-works_and_closes-L-Side : goal.ghosts-works_and_closes-L-Side
ghosts-works_and_closes-L-Side g a = record { plan = a.plan; called = a.name }
