use Rattle.std.proofs.Common.{◌∙◌}
use Rattle.tca_templates.proofs.KeyOrder.{held_found, held_none}
use Rattle.tca_templates.proofs.slots.place_in.Goals as goal

pub returns-in_err-get : goal.returns-in_err-get
returns-in_err-get c = c.from_residual.ensures ∙ held_none c.args.key c.args.places.now.entries c.in_err-get.ensures.value

pub returns : goal.returns
returns c = held_found c.args.key c.args.places.now.entries _ c.in_ok-get.ensures.value
