use Rattle.std.proofs.Common.{rules}
use Rattle.tca_log.proofs.sets.set_in.Goals as goal

pub returns : goal.returns
returns g c = search rules
