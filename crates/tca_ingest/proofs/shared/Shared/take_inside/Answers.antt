use Rattle.std.proofs.Common.{rules}
use Rattle.tca_ingest.proofs.shared.Shared.take_inside.Goals as goal

pub returns-clause-took : goal.returns-clause-took
returns-clause-took g c = search rules
