use Rattle.std.proofs.Common.{rules}
use Rattle.tca_report.proofs.report.Identity.one_number.Goals as goal

pub returns-clause-value : goal.returns-clause-value
returns-clause-value c = search rules
