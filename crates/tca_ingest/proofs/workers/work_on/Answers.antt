use Rattle.std.proofs.Common.{rules}
use Rattle.tca_ingest.proofs.workers.work_on.Goals as goal

pub returns-in_default-clause-room : goal.returns-in_default-clause-room
returns-in_default-clause-room g c = search rules
