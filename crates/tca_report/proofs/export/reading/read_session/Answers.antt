use Rattle.std.proofs.Common.{rules}
use Rattle.tca_report.proofs.export.reading.read_session.Goals as goal

pub returns-in-Version1-clause-value : goal.returns-in-Version1-clause-value
returns-in-Version1-clause-value c = search rules
