use Rattle.std.proofs.Common.{◌≡◌, length}
use Rattle.tca_log.specs.Disputes.{settled_of}
use Rattle.tca_log.proofs.settled.SettledIterator.next.Given as goal

abbrev pub invariant-loop-report : goal.invariant-loop-report
invariant-loop-report g l = settled_of l.self-inside.disputed.now.rows l.self-inside.left ≡ l.fn.self

abbrev pub decreases-loop-report : goal.decreases-loop-report
decreases-loop-report g l = length l.self-inside.left
