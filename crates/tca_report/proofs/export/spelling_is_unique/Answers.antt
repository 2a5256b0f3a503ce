use Rattle.tca_report.proofs.lemmas.export.Spelling.{one_spelling}
use Rattle.tca_report.proofs.export.spelling_is_unique.Goals as goal

pub returns : goal.returns
returns c = one_spelling
