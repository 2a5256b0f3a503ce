use Rattle.std.proofs.Common.{◌≡◌, ◌++◌, drop}
use Rattle.tca_gossip.specs.Runs.{delta_of, summary_count}
use Rattle.tca_gossip.specs.inside.Storage.{held_in}
use Rattle.tca_gossip.proofs.delta.delta_for.Given as goal

abbrev pub invariant-loop-entry : goal.invariant-loop-entry
invariant-loop-entry l = l.runs.items ++ delta_of (summary_count l.since) (held_in (drop l.entry-index l.chains)) ≡ delta_of (summary_count l.since) (held_in l.chains)
