use Rattle.tca_ingest_tests.proofs.tests.gates.two_jobs_meet.Given as goal

abbrev pub ghosts-meets-L-Ledger : goal.ghosts-meets-L-Ledger
ghosts-meets-L-Ledger g a = record { name = a.blank.name; parts = a.blank.parts }

abbrev pub ghosts-meets-L-Side : goal.ghosts-meets-L-Side
ghosts-meets-L-Side g a = record { plan = a.plan; called = a.name }
