use Rattle.std.proofs.Common.{rules}
use Rattle.tca_figures.proofs.figures.ColourFigures.plus.Goals as goal

pub returns-in_err-red : goal.returns-in_err-red
returns-in_err-red c = search rules

pub returns : goal.returns
returns c = search rules
