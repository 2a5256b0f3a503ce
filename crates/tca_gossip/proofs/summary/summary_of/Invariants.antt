use Rattle.std.proofs.Common.{◌≡◌, take}
use Rattle.tca_gossip.specs.Coupling.{counts_of}
use Rattle.tca_gossip.specs.inside.Storage.{held_in}
use Rattle.tca_gossip.proofs.summary.summary_of.Given as goal

abbrev pub invariant-loop-entry : goal.invariant-loop-entry
invariant-loop-entry l = l.summary ≡ counts_of (held_in (take l.entry-index l.chains))
