use Rattle.std.proofs.Common.{rules}
use Rattle.tca_accounts.proofs.terms.are_few.Goals as goal

pub returns : goal.returns
returns c = search rules
