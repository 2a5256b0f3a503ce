use Rattle.tca_ingest_tests.proofs.tests.threads.two_threads_share_a_replica.Given as goal

abbrev pub ghosts-by_two-L-Ledger : goal.ghosts-by_two-L-Ledger
ghosts-by_two-L-Ledger g a = record { name = a.blank.name; parts = a.blank.parts }

abbrev pub ghosts-by_two-L-Side : goal.ghosts-by_two-L-Side
ghosts-by_two-L-Side g a = record { plan = a.plan; called = a.name }
