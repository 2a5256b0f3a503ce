use Rattle.std.proofs.Common.{rules}
use Rattle.tca_templates.proofs.numbers.window_of.Goals as goal

pub returns : goal.returns
returns c = search rules
