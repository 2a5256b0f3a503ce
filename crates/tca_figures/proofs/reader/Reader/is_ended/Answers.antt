use Rattle.std.proofs.Common.{rules}
use Rattle.tca_figures.proofs.reader.Reader.is_ended.Goals as goal

pub returns : goal.returns
returns c = search rules
