use Rattle.tca_ingest_tests.proofs.tests.exchanges.a_replica_tells_itself_nothing_new.Given as goal

abbrev pub ghosts-is_told_by_itself-L-Ledger : goal.ghosts-is_told_by_itself-L-Ledger
ghosts-is_told_by_itself-L-Ledger g a = record { name = a.blank.name; parts = a.blank.parts }

abbrev pub ghosts-is_told_by_itself-L-Side : goal.ghosts-is_told_by_itself-L-Side
ghosts-is_told_by_itself-L-Side g a = record { plan = a.plan; called = a.name }
