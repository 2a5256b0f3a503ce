use Rattle.std.proofs.Common.{rules}
use Rattle.tca_accounts.proofs.running.count_in.Goals as goal

pub returns-then-span-index-clause-current : goal.returns-then-span-index-clause-current
returns-then-span-index-clause-current c = search rules

pub returns-then-span-index-clause-ended : goal.returns-then-span-index-clause-ended
returns-then-span-index-clause-ended c = search rules
