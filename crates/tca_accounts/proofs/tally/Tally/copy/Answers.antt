use Rattle.std.proofs.Common.{rules}
use Rattle.tca_accounts.proofs.tally.Tally.copy.Goals as goal

pub returns : goal.returns
returns c = search rules
