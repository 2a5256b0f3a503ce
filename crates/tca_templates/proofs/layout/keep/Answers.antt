use Rattle.std.proofs.Common.{rules}
use Rattle.tca_templates.proofs.layout.keep.Goals as goal

pub returns-in-Some : goal.returns-in-Some
returns-in-Some c = search rules
