use Rattle.std.proofs.Common.{rules}
use Rattle.tca_log.proofs.rows.chunk.Chunk.withdraw.Goals as goal

pub returns-in-Ok : goal.returns-in-Ok
returns-in-Ok g c = search rules
