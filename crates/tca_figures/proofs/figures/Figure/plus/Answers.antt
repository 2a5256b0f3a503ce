use Rattle.std.proofs.Common.{rules}
use Rattle.tca_figures.proofs.figures.Figure.plus.Goals as goal

pub returns : goal.returns
returns c = search rules
