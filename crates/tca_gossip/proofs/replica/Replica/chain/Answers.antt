use Rattle.std.proofs.Common.{rules}
use Rattle.tca_gossip.proofs.replica.Replica.chain.Goals as goal

pub returns-clause-items : goal.returns-clause-items
returns-clause-items c = search rules
