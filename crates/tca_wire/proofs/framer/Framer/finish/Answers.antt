use Rattle.std.proofs.Common.{rules}
use Rattle.tca_wire.proofs.framer.Framer.finish.Goals as goal

pub returns-in-None-2 : goal.returns-in-None-2
returns-in-None-2 c = search rules
