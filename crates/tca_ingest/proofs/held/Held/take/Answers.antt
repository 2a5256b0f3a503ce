use Rattle.std.proofs.Common.{rules}
use Rattle.tca_ingest.proofs.held.Held.take.Goals as goal

pub returns-clause-took : goal.returns-clause-took
returns-clause-took g c = search rules
