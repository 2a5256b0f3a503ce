use Rattle.tca_ingest_tests.proofs.tests.memory.a_call_that_is_refused_a_growth_says_so.Given as goal

abbrev pub ghosts-calls_lack_memory_alone-L-Ledger : goal.ghosts-calls_lack_memory_alone-L-Ledger
ghosts-calls_lack_memory_alone-L-Ledger g a = record { name = a.blank.name; parts = a.blank.parts }

abbrev pub ghosts-calls_lack_memory_alone-L-Side : goal.ghosts-calls_lack_memory_alone-L-Side
ghosts-calls_lack_memory_alone-L-Side g a = record { plan = a.plan; called = a.name }
