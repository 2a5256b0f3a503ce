use Rattle.std.proofs.Common.{◌≡◌, ◌++◌, length}
use Rattle.tca_log.specs.inside.Chunks.{joined}
use Rattle.tca_log.proofs.rows.iter.RowsIterIterator.next.Given as goal

abbrev pub invariant-loop-self : goal.invariant-loop-self
invariant-loop-self g l = l.self-inside.now.now ++ joined l.self-inside.later.now ≡ l.fn.self

abbrev pub decreases-loop-self : goal.decreases-loop-self
decreases-loop-self g l = length l.self-inside.later.now
