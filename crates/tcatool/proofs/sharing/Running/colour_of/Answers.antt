use Rattle.std.proofs.Common.{rules}
use Rattle.tcatool.proofs.sharing.Running.colour_of.Goals as goal

pub returns-clause-colour : goal.returns-clause-colour
returns-clause-colour c = search rules

pub returns-clause-after : goal.returns-clause-after
returns-clause-after c = search rules
