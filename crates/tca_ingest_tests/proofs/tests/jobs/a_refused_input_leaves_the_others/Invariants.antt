use Rattle.tca_ingest_tests.proofs.tests.jobs.a_refused_input_leaves_the_others.Given as goal

abbrev pub ghosts-takes_the_others-L-Ledger : goal.ghosts-takes_the_others-L-Ledger
ghosts-takes_the_others-L-Ledger g a = record { name = a.blank.name; parts = a.blank.parts }

abbrev pub ghosts-takes_the_others-L-Side : goal.ghosts-takes_the_others-L-Side
ghosts-takes_the_others-L-Side g a = record { plan = a.plan; called = a.name }
