use Rattle.std.proofs.Common.{rules}
use Rattle.tca_gossip.proofs.run.Run.copy.Goals as goal

pub returns : goal.returns
returns c = search rules
