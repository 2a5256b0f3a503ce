use Rattle.std.proofs.Common.{◌∙◌, sym}
use Rattle.tca_meters.proofs.SpecNumbers.{number_read}
use Rattle.tca_meters.proofs.spec.number.Goals as goal

pub returns-then-is_number : goal.returns-then-is_number
returns-then-is_number c = c.ok.ensures.value ∙ number_read c.args.text.now c.parse.result (sym c.is_number.ensures ∙ c.if-is_number.true) c.parse.ensures.value.0
