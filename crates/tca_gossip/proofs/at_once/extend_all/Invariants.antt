use Rattle.std.proofs.Common.{◌≡◌, ℕ, ◌++◌, take}
use Rattle.tca_gossip.specs.Replicas.{of, reports_in}
use Rattle.tca_gossip.specs.Runs.{rests}
use Rattle.tca_gossip.specs.inside.Storage.{held_of}
use Rattle.tca_gossip.proofs.at_once.extend_all.Given as goal

abbrev pub invariant-loop-run : goal.invariant-loop-run
invariant-loop-run l = record {
  kept_is : (q : ℕ) → held_of l.chains q ≡ held_of l.fn.chains q ++ of q (rests (held_of l.fn.chains) (take l.run-index l.runs));
  list_is : l.list.items ≡ reports_in (rests (held_of l.fn.chains) (take l.run-index l.runs));
}
