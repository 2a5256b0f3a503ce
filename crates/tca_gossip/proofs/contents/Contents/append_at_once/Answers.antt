use Rattle.std.proofs.Common.{rules}
use Rattle.tca_gossip.proofs.contents.Contents.append_at_once.Goals as goal

pub returns-in-Err-clause-same : goal.returns-in-Err-clause-same
returns-in-Err-clause-same c = search rules
