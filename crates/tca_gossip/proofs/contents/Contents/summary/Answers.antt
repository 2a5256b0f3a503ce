use Rattle.tca_gossip.specs.inside.Storage.{held_in}
use Rattle.tca_gossip.proofs.Answering.{counts_each}
use Rattle.tca_gossip.proofs.contents.Contents.summary.Goals as goal

pub returns-clause-each : goal.returns-clause-each
returns-clause-each c = rw (← c.self.view_is) (counts_each (held_in c.self.inside.chains) c.summary_of.result c.self.invariant.replica.rises c.summary_of.ensures)
