use Rattle.std.proofs.Common.{rules}
use Rattle.tca_log.proofs.rows.chunk.copy_shared.Goals as goal

pub returns-in-Some-clause-rows : goal.returns-in-Some-clause-rows
returns-in-Some-clause-rows g c = search rules
