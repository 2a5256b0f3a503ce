use Rattle.std.proofs.Common.{rules}
use Rattle.tca_report.proofs.input.extraction.read_microseconds.Goals as goal

pub returns : goal.returns
returns c = search rules
