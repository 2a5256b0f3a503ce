use Rattle.tca_ingest_tests.proofs.tests.rows.a_close_wants_each_pass.Given as goal

abbrev pub ghosts-holds_one_back-L-Ledger : goal.ghosts-holds_one_back-L-Ledger
ghosts-holds_one_back-L-Ledger g a = record { name = a.blank.name; parts = a.blank.parts }

abbrev pub ghosts-holds_one_back-L-Side : goal.ghosts-holds_one_back-L-Side
ghosts-holds_one_back-L-Side g a = record { plan = a.plan; called = a.name }
