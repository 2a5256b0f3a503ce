use Rattle.std.proofs.Common.{rules}
use Rattle.tca_ingest.proofs.copies.took.Goals as goal

pub returns : goal.returns
returns c = search rules
