use Rattle.tca_ingest_tests.proofs.tests.jobs_memory.a_worker_that_was_refused_its_thread_does_nothing.Given as goal

abbrev pub ghosts-works_by_one-L-Ledger : goal.ghosts-works_by_one-L-Ledger
ghosts-works_by_one-L-Ledger g a = record { name = a.blank.name; parts = a.blank.parts }

abbrev pub ghosts-works_by_one-L-Side : goal.ghosts-works_by_one-L-Side
ghosts-works_by_one-L-Side g a = record { plan = a.plan; called = a.name }
