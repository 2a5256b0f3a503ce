use Rattle.tca_replay.specs.Books.{Fits}
use Rattle.tca_core_tests.proofs.tests.replay.memory.take_all.Given as goal

abbrev pub invariant-loop-report : goal.invariant-loop-report
invariant-loop-report g l = Fits l.log l.book
