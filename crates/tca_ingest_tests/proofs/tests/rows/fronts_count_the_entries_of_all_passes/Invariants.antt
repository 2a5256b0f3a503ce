use Rattle.tca_ingest_tests.proofs.tests.rows.fronts_count_the_entries_of_all_passes.Given as goal

abbrev pub ghosts-counts_all_entries-L-Ledger : goal.ghosts-counts_all_entries-L-Ledger
ghosts-counts_all_entries-L-Ledger g a = record { name = a.blank.name; parts = a.blank.parts }

abbrev pub ghosts-counts_all_entries-L-Side : goal.ghosts-counts_all_entries-L-Side
ghosts-counts_all_entries-L-Side g a = record { plan = a.plan; called = a.name }
