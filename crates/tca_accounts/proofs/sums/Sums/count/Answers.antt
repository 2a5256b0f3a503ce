use Rattle.std.proofs.Common.{rules}
use Rattle.tca_accounts.proofs.sums.Sums.count.Goals as goal

pub overflow_add-self : goal.overflow_add-self
overflow_add-self c = search rules

pub overflow_add-self-2 : goal.overflow_add-self-2
overflow_add-self-2 c = search rules

pub invariant_of-self : goal.invariant_of-self
invariant_of-self c = search rules

pub returns : goal.returns
returns c = search rules
