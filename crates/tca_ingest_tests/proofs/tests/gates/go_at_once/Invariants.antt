use Rattle.tca_ingest_tests.proofs.tests.gates.go_at_once.Given as goal

abbrev pub ghosts-goes_by_rounds-L-Ledger : goal.ghosts-goes_by_rounds-L-Ledger
ghosts-goes_by_rounds-L-Ledger g a = record { name = a.blank.name; parts = a.blank.parts }

abbrev pub ghosts-goes_by_rounds-L-Side : goal.ghosts-goes_by_rounds-L-Side
ghosts-goes_by_rounds-L-Side g a = record { plan = a.plan; called = a.name }
