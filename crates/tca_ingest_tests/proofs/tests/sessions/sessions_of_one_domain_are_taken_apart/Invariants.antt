use Rattle.tca_ingest_tests.proofs.tests.sessions.sessions_of_one_domain_are_taken_apart.Given as goal

abbrev pub ghosts-takes_and_asks-L-Ledger : goal.ghosts-takes_and_asks-L-Ledger
ghosts-takes_and_asks-L-Ledger g a = record { name = a.blank.name; parts = a.blank.parts }

abbrev pub ghosts-takes_and_asks-L-Side : goal.ghosts-takes_and_asks-L-Side
ghosts-takes_and_asks-L-Side g a = record { plan = a.plan; called = a.name }
