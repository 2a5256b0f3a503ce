use Rattle.tca_replay.specs.Books.{Fits}
use Rattle.tca_core_tests.proofs.tests.replay.books.bill.Given as goal

abbrev pub invariant-loop-row : goal.invariant-loop-row
invariant-loop-row l = Fits l.log l.book
