use Rattle.tca_ingest_tests.proofs.tests.jobs.many_inputs_have_a_result_each.Given as goal

abbrev pub ghosts-does_many-L-Ledger : goal.ghosts-does_many-L-Ledger
ghosts-does_many-L-Ledger g a = record { name = a.blank.name; parts = a.blank.parts }

abbrev pub ghosts-does_many-L-Side : goal.ghosts-does_many-L-Side
ghosts-does_many-L-Side g a = record { plan = a.plan; called = a.name }
