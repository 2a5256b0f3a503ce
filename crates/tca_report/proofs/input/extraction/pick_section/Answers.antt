use Rattle.std.proofs.Common.{◌∙◌}
use Rattle.tca_report.proofs.lemmas.input.ChosenFields.{section_told}
use Rattle.tca_report.proofs.input.extraction.pick_section.Goals as goal

pub returns-in-None : goal.returns-in-None
returns-in-None g c = section_told (g.R.DataRecord.plain c.args.placed.now).fields _ c.in-None.ensures

pub returns-in-Some : goal.returns-in-Some
returns-in-Some g c = c.read_section.ensures ∙ section_told (g.R.DataRecord.plain c.args.placed.now).fields _ c.in-Some.ensures
