use Rattle.std.proofs.Common.{◌∙◌}
use Rattle.tca_templates.proofs.LayoutLaws.{section_within, section_is}
use Rattle.tca_templates.proofs.record.Record.section.Goals as goal

pub value_at-requires : goal.value_at-requires
value_at-requires c = section_within c.self.inside.template.now.specs.items c.self.inside.spots.now c.self.inside.octets.now c.self.invariant.0

pub returns : goal.returns
returns c = rw (← c.self.view_is) (c.value_at.ensures ∙ section_is c.self.inside.template.now.specs.items c.self.inside.spots.now c.self.inside.octets.now c.self.invariant.0)
