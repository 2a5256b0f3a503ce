use Rattle.std.proofs.Common.{rules}
use Rattle.tca_accounts.proofs.period.Period.new.Goals as goal

pub returns : goal.returns
returns c = search rules
