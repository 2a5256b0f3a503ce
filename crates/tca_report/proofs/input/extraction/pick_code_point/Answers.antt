use Rattle.std.proofs.Common.{◌∙◌, Some, None}
use Rattle.tca_report.proofs.lemmas.input.ChosenFields.{code_point_told}
use Rattle.tca_report.proofs.input.extraction.pick_code_point.Goals as goal

pub returns-in-Some : goal.returns-in-Some
returns-in-Some g c = c.read_code_point.ensures ∙ code_point_told (g.R.DataRecord.plain c.args.placed.now).fields c.args.section _ c.in-Some.ensures

pub returns-in-None : goal.returns-in-None
returns-in-None g c = rw c.in-None.is (code_point_told (g.R.DataRecord.plain c.args.placed.now).fields None _ c.in_default.ensures)

pub returns-in-Some-section : goal.returns-in-Some-section
returns-in-Some-section g c = rw (c.in-Some-section.is, c.from.ensures) (code_point_told (g.R.DataRecord.plain c.args.placed.now).fields (Some (c.in-Some-section.field-0-0, c.in-Some-section.point)) _ c.in_default.ensures)
