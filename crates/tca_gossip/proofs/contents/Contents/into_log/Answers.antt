use Rattle.std.proofs.Common.{rules}
use Rattle.tca_gossip.proofs.contents.Contents.into_log.Goals as goal

pub returns : goal.returns
returns c = search rules
