use Rattle.tca_replay.specs.Books.{Fits}
use Rattle.tca_core_tests.proofs.tests.replay.settled.agree.Given as goal

abbrev pub invariant-loop-report : goal.invariant-loop-report
invariant-loop-report l = Fits l.log l.book
