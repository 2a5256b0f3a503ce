use Rattle.std.proofs.Common.{ap, arith, length, ◌∙◌}
use Rattle.tca_templates.specs.Fields.{SlotsView}
use Rattle.tca_templates.proofs.SlotLaws.{filled_few}
use Rattle.tca_templates.proofs.slots.Slots.len.Goals as goal

pub returns-clause-count : goal.returns-clause-count
returns-clause-count c = c.self.invariant.0.slotted.counted ∙ ap (λ (v : SlotsView). length v.known) c.self.view_is

pub returns-clause-small : goal.returns-clause-small
returns-clause-small c = omega (arith, c.self.invariant.0.slotted.counted, filled_few c.self.inside.slots.items, c.self.inside.slots.small)
