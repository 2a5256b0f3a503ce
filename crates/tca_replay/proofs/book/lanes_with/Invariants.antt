use Rattle.tca_log.specs.Disputes.{undisputed}
use Rattle.tca_replay.specs.Books.{AreFilled}
use Rattle.tca_replay.proofs.book.lanes_with.Given as goal

abbrev pub invariant-loop-report : goal.invariant-loop-report
invariant-loop-report g l = AreFilled l.plan l.k (undisputed l.log) l.report-iterator l.unassigned l.lanes.items
