use Rattle.std.proofs.Common.{rules}
use Rattle.std.proofs.Output.{has_written_of_eq}
use Rattle.tca_figures.proofs.Shown.{opening_text}
use Rattle.tca_figures.proofs.text.OpeningDisplay.fmt.Goals as goal

pub returns-clause-writes : goal.returns-clause-writes
returns-clause-writes g c p ok = has_written_of_eq _ _ _ _ _ (opening_text c.args.self.now.0.now) (search rules)
