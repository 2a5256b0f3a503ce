use Rattle.std.proofs.Common.{rules}
use Rattle.tca_figures.proofs.sum.count_sum.Goals as goal

pub returns-in-Some-clause-added : goal.returns-in-Some-clause-added
returns-in-Some-clause-added c = search rules
