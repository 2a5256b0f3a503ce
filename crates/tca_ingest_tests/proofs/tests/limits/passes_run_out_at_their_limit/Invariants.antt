use Rattle.tca_ingest_tests.proofs.tests.limits.passes_run_out_at_their_limit.Given as goal

abbrev pub ghosts-runs_out_of_passes-L-Ledger : goal.ghosts-runs_out_of_passes-L-Ledger
ghosts-runs_out_of_passes-L-Ledger g a = record { name = a.blank.name; parts = a.blank.parts }

abbrev pub ghosts-runs_out_of_passes-L-Side : goal.ghosts-runs_out_of_passes-L-Side
ghosts-runs_out_of_passes-L-Side g a = record { plan = a.plan; called = a.name }
