use Rattle.tca_ingest_tests.proofs.tests.limits.a_journal_is_full_at_its_limit.Given as goal

abbrev pub ghosts-fills_the_journal-I-Ledger : goal.ghosts-fills_the_journal-I-Ledger
ghosts-fills_the_journal-I-Ledger g a = record { name = a.one.0.name; parts = a.one.0.parts }

abbrev pub ghosts-fills_the_journal-I-Side : goal.ghosts-fills_the_journal-I-Side
ghosts-fills_the_journal-I-Side g a = record { plan = a.one.2; called = a.one.1 }

abbrev pub ghosts-fills_the_journal-F-Ledger : goal.ghosts-fills_the_journal-F-Ledger
ghosts-fills_the_journal-F-Ledger g a = record { name = a.two.0.name; parts = a.two.0.parts }

abbrev pub ghosts-fills_the_journal-F-Side : goal.ghosts-fills_the_journal-F-Side
ghosts-fills_the_journal-F-Side g a = record { plan = a.two.2; called = a.two.1 }
