use Rattle.std.proofs.Common.{rules}
use Rattle.tca_ingest.proofs.entry.Entry.pass.Goals as goal

pub returns-in-Sent : goal.returns-in-Sent
returns-in-Sent c = search rules
