use Rattle.std.proofs.Common.{rules}
use Rattle.tca_accounts.proofs.metered.meter_next.Goals as goal

pub returns-clause-colour : goal.returns-clause-colour
returns-clause-colour g c = search rules

pub returns-clause-after : goal.returns-clause-after
returns-clause-after g c = search rules
