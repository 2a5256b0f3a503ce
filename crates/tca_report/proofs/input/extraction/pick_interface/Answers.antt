use Rattle.std.proofs.Common.{◌∙◌}
use Rattle.tca_report.proofs.lemmas.input.ChosenFields.{interface_told}
use Rattle.tca_report.proofs.input.extraction.pick_interface.Goals as goal

pub returns-in-None-clause-value : goal.returns-in-None-clause-value
returns-in-None-clause-value g c = interface_told (g.R.DataRecord.plain c.args.placed.now).fields _ c.in-None.ensures

pub returns-in-Some-clause-value : goal.returns-in-Some-clause-value
returns-in-Some-clause-value g c = c.read_unsigned.ensures.value ∙ interface_told (g.R.DataRecord.plain c.args.placed.now).fields _ c.in-Some.ensures
