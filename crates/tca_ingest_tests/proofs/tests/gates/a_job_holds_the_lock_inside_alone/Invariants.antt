use Rattle.tca_ingest_tests.proofs.tests.gates.a_job_holds_the_lock_inside_alone.Given as goal

abbrev pub ghosts-watches-L-Ledger : goal.ghosts-watches-L-Ledger
ghosts-watches-L-Ledger g a = record { name = a.blank.name; parts = a.blank.parts }

abbrev pub ghosts-watches-L-Side : goal.ghosts-watches-L-Side
ghosts-watches-L-Side g a = record { plan = a.plan; called = a.name }
