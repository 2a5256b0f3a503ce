use Rattle.std.proofs.Common.{rules}
use Rattle.tca_figures.proofs.sum.add.Goals as goal

pub returns-in-Some-clause-refused : goal.returns-in-Some-clause-refused
returns-in-Some-clause-refused c = search rules

pub sum_of-requires : goal.sum_of-requires
sum_of-requires c = search rules

pub returns-clause-alike : goal.returns-clause-alike
returns-clause-alike c = search rules

pub returns-clause-refused : goal.returns-clause-refused
returns-clause-refused c = search rules
