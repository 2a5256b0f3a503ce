use Rattle.tca_ingest_tests.proofs.tests.gates.a_replica_that_is_held_holds_no_other.Given as goal

abbrev pub ghosts-holds_one-I-Ledger : goal.ghosts-holds_one-I-Ledger
ghosts-holds_one-I-Ledger g a = record { name = a.one.0.name; parts = a.one.0.parts }

abbrev pub ghosts-holds_one-I-Side : goal.ghosts-holds_one-I-Side
ghosts-holds_one-I-Side g a = record { plan = a.one.2; called = a.one.1 }

abbrev pub ghosts-holds_one-F-Ledger : goal.ghosts-holds_one-F-Ledger
ghosts-holds_one-F-Ledger g a = record { name = a.two.0.name; parts = a.two.0.parts }

abbrev pub ghosts-holds_one-F-Side : goal.ghosts-holds_one-F-Side
ghosts-holds_one-F-Side g a = record { plan = a.two.2; called = a.two.1 }
