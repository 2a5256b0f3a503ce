use Rattle.tca_replay.proofs.Loops.{AreFirst}
use Rattle.tca_replay.proofs.book.lanes_of.Given as goal

abbrev pub invariant-loop-n : goal.invariant-loop-n
invariant-loop-n g l = AreFirst l.plan l.k l.n l.lanes.items
