use Rattle.std.proofs.Common.{rules}
use Rattle.tca_gossip.proofs.contents.Contents.keep_book.Goals as goal

pub returns-clause-kept : goal.returns-clause-kept
returns-clause-kept c = search rules
