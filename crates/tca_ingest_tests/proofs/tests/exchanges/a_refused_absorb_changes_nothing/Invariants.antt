use Rattle.tca_ingest_tests.proofs.tests.exchanges.a_refused_absorb_changes_nothing.Given as goal

abbrev pub ghosts-stays_as_it_was-L-Ledger : goal.ghosts-stays_as_it_was-L-Ledger
ghosts-stays_as_it_was-L-Ledger g a = record { name = a.blank.name; parts = a.blank.parts }

abbrev pub ghosts-stays_as_it_was-L-Side : goal.ghosts-stays_as_it_was-L-Side
ghosts-stays_as_it_was-L-Side g a = record { plan = a.plan; called = a.name }
