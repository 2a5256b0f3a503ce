use Rattle.tca_gossip.proofs.RunSteps.{AreSoFar}
use Rattle.tca_gossip.proofs.run.are_runs.Given as goal

abbrev pub invariant-loop-run : goal.invariant-loop-run
invariant-loop-run l = AreSoFar l.runs l.least l.run-index
