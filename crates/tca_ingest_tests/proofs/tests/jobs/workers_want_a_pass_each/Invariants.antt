use Rattle.tca_ingest_tests.proofs.tests.jobs.workers_want_a_pass_each.Given as goal

abbrev pub ghosts-lacks_a_pass-L-Ledger : goal.ghosts-lacks_a_pass-L-Ledger
ghosts-lacks_a_pass-L-Ledger g a = record { name = a.blank.name; parts = a.blank.parts }

abbrev pub ghosts-lacks_a_pass-L-Side : goal.ghosts-lacks_a_pass-L-Side
ghosts-lacks_a_pass-L-Side g a = record { plan = a.plan; called = a.name }
