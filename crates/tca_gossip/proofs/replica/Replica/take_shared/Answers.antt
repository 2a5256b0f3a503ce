use Rattle.std.proofs.Common.{rules}
use Rattle.tca_gossip.proofs.replica.Replica.take_shared.Goals as goal

pub returns-clause-stop : goal.returns-clause-stop
returns-clause-stop c = search rules
