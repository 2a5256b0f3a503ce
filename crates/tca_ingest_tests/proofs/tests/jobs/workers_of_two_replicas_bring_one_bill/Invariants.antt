use Rattle.tca_ingest_tests.proofs.tests.jobs.workers_of_two_replicas_bring_one_bill.Given as goal

abbrev pub ghosts-agreed-I-Ledger : goal.ghosts-agreed-I-Ledger
ghosts-agreed-I-Ledger g a = record { name = a.one.0.name; parts = a.one.0.parts }

abbrev pub ghosts-agreed-I-Side : goal.ghosts-agreed-I-Side
ghosts-agreed-I-Side g a = record { plan = a.one.2; called = a.one.1 }

abbrev pub ghosts-agreed-F-Ledger : goal.ghosts-agreed-F-Ledger
ghosts-agreed-F-Ledger g a = record { name = a.two.0.name; parts = a.two.0.parts }

abbrev pub ghosts-agreed-F-Side : goal.ghosts-agreed-F-Side
ghosts-agreed-F-Side g a = record { plan = a.two.2; called = a.two.1 }
