use Rattle.tca_ingest_tests.proofs.tests.memory.a_statement_lacks_memory_only_beside_a_book.Given as goal

abbrev pub ghosts-states_a_long_list-L-Ledger : goal.ghosts-states_a_long_list-L-Ledger
ghosts-states_a_long_list-L-Ledger g a = record { name = a.blank.name; parts = a.blank.parts }

abbrev pub ghosts-states_a_long_list-L-Side : goal.ghosts-states_a_long_list-L-Side
ghosts-states_a_long_list-L-Side g a = record { plan = a.plan; called = a.name }
