use Rattle.std.proofs.Common.{rules}
use Rattle.tca_report.proofs.export.reading.known_format.Goals as goal

pub returns-in-2 : goal.returns-in-2
returns-in-2 c = search rules
