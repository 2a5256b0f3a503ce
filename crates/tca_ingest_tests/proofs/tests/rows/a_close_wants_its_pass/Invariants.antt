use Rattle.tca_ingest_tests.proofs.tests.rows.a_close_wants_its_pass.Given as goal

abbrev pub ghosts-holds_all_back-I-Ledger : goal.ghosts-holds_all_back-I-Ledger
ghosts-holds_all_back-I-Ledger g a = record { name = a.one.0.name; parts = a.one.0.parts }

abbrev pub ghosts-holds_all_back-I-Side : goal.ghosts-holds_all_back-I-Side
ghosts-holds_all_back-I-Side g a = record { plan = a.one.2; called = a.one.1 }

abbrev pub ghosts-holds_all_back-F-Ledger : goal.ghosts-holds_all_back-F-Ledger
ghosts-holds_all_back-F-Ledger g a = record { name = a.two.0.name; parts = a.two.0.parts }

abbrev pub ghosts-holds_all_back-F-Side : goal.ghosts-holds_all_back-F-Side
ghosts-holds_all_back-F-Side g a = record { plan = a.two.2; called = a.two.1 }
