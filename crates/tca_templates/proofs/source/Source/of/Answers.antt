use Rattle.std.proofs.Common.{rules}
use Rattle.tca_templates.proofs.source.Source.of.Goals as goal

pub returns : goal.returns
returns c = search rules
