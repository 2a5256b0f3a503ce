use Rattle.std.proofs.Common.{rules}
use Rattle.tca_audit.proofs.arrivals.let_in.Goals as goal

pub returns-else-next-thousandths-clause-end : goal.returns-else-next-thousandths-clause-end
returns-else-next-thousandths-clause-end c = search rules
