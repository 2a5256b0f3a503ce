use Rattle.tca_commands.proofs.replicated.bill_replicas.Given as goal

abbrev pub ghosts-run_replicas-L-Ledger : goal.ghosts-run_replicas-L-Ledger
ghosts-run_replicas-L-Ledger g a = record { name = a.blank.name; parts = a.blank.parts }

abbrev pub ghosts-run_replicas-L-Side : goal.ghosts-run_replicas-L-Side
ghosts-run_replicas-L-Side g a = record { plan = a.mine; called = 1 }
