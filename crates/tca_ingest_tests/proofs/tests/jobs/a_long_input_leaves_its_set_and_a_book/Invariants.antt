use Rattle.tca_ingest_tests.proofs.tests.jobs.a_long_input_leaves_its_set_and_a_book.Given as goal

abbrev pub ghosts-leaves_set_and_book-L-Ledger : goal.ghosts-leaves_set_and_book-L-Ledger
ghosts-leaves_set_and_book-L-Ledger g a = record { name = a.blank.name; parts = a.blank.parts }

abbrev pub ghosts-leaves_set_and_book-L-Side : goal.ghosts-leaves_set_and_book-L-Side
ghosts-leaves_set_and_book-L-Side g a = record { plan = a.plan; called = a.name }
