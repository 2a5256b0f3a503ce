use Rattle.std.proofs.Common.{rules}
use Rattle.tca_figures.proofs.statement.fault_at.Goals as goal

pub returns-in-Sum : goal.returns-in-Sum
returns-in-Sum c = search rules
