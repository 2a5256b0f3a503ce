use Rattle.std.proofs.Common.{◌≡◌, drop}
use Rattle.tca_gossip.specs.inside.Storage.{held_of}
use Rattle.tca_gossip.specs.Runs.{first_fault, AreRuns}
use Rattle.tca_gossip.proofs.absorb.refusal.Given as goal

abbrev pub invariant-loop-run : goal.invariant-loop-run
invariant-loop-run l = record {
  so_far : first_fault l.name (held_of l.chains) l.runs ≡ first_fault l.name (held_of l.chains) (drop l.run-index l.runs);
  runs : AreRuns (drop l.run-index l.runs);
}
