use Rattle.std.proofs.Common.{rules}
use Rattle.tca_accounts.proofs.metered.no_reports.Goals as goal

pub returns : goal.returns
returns g c = search rules
