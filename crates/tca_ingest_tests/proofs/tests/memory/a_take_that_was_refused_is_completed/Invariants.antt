use Rattle.tca_ingest_tests.proofs.tests.memory.a_take_that_was_refused_is_completed.Given as goal

abbrev pub ghosts-takes_again-L-Ledger : goal.ghosts-takes_again-L-Ledger
ghosts-takes_again-L-Ledger g a = record { name = a.blank.name; parts = a.blank.parts }

abbrev pub ghosts-takes_again-L-Side : goal.ghosts-takes_again-L-Side
ghosts-takes_again-L-Side g a = record { plan = a.plan; called = a.name }
