use Rattle.std.proofs.Common.{rules}
use Rattle.tca_split.proofs.buffers.room_of.Goals as goal

pub returns-clause-all : goal.returns-clause-all
returns-clause-all c = search rules
