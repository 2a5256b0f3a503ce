use Rattle.std.proofs.Common.{rules}
use Rattle.tca_accounts.proofs.bill.Bill.copy.Goals as goal

pub returns : goal.returns
returns c = search rules
