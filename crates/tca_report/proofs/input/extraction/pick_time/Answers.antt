use Rattle.std.proofs.Common.{◌∙◌, ap, Some}
use Rattle.tca_report.proofs.lemmas.input.ChosenFields.{time_told}
use Rattle.tca_report.proofs.input.extraction.pick_time.Goals as goal

pub returns-in-None : goal.returns-in-None
returns-in-None g c = time_told (g.R.DataRecord.plain c.args.placed.now).fields _ c.in-None.ensures

pub returns-in-Some : goal.returns-in-Some
returns-in-Some g c = ap (λ r. Some r) c.read_time.ensures ∙ time_told (g.R.DataRecord.plain c.args.placed.now).fields _ c.in-Some.ensures
