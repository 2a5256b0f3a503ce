use Rattle.std.proofs.Common.{rules}
use Rattle.tca_report.proofs.report.ReportOrd.cmp.Goals as goal

pub returns-then-is_ne : goal.returns-then-is_ne
returns-then-is_ne c = search rules
