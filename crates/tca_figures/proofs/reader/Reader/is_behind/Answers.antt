use Rattle.std.proofs.Common.{rules}
use Rattle.tca_figures.proofs.reader.Reader.is_behind.Goals as goal

pub returns-in-Some : goal.returns-in-Some
returns-in-Some c = search rules
