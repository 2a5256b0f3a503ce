use Rattle.tca_ingest_tests.proofs.tests.exchanges.two_replicas_with_a_pass_each_tell_each_other.Given as goal

abbrev pub ghosts-tells_by_one_pass-I-Ledger : goal.ghosts-tells_by_one_pass-I-Ledger
ghosts-tells_by_one_pass-I-Ledger g a = record { name = a.one.0.name; parts = a.one.0.parts }

abbrev pub ghosts-tells_by_one_pass-I-Side : goal.ghosts-tells_by_one_pass-I-Side
ghosts-tells_by_one_pass-I-Side g a = record { plan = a.one.2; called = a.one.1 }

abbrev pub ghosts-tells_by_one_pass-F-Ledger : goal.ghosts-tells_by_one_pass-F-Ledger
ghosts-tells_by_one_pass-F-Ledger g a = record { name = a.two.0.name; parts = a.two.0.parts }

abbrev pub ghosts-tells_by_one_pass-F-Side : goal.ghosts-tells_by_one_pass-F-Side
ghosts-tells_by_one_pass-F-Side g a = record { plan = a.two.2; called = a.two.1 }
