use Rattle.tca_ingest_tests.proofs.tests.exchanges.closed_replicas_of_one_name_clash.Given as goal

abbrev pub ghosts-with-L-Ledger : goal.ghosts-with-L-Ledger
ghosts-with-L-Ledger g a = record { name = a.blank.name; parts = a.blank.parts }

abbrev pub ghosts-with-L-Side : goal.ghosts-with-L-Side
ghosts-with-L-Side g a = record { plan = a.plan; called = a.name }
