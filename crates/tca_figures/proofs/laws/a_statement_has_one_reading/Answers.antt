use Rattle.tca_figures.proofs.OneReading.{one_sum, one_text}
use Rattle.tca_figures.proofs.laws.a_statement_has_one_reading.Goals as goal

pub returns : goal.returns
returns c = record { text = one_text; sum = one_sum }
