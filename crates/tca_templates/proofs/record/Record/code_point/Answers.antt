use Rattle.std.proofs.Common.{◌∙◌}
use Rattle.tca_templates.proofs.LayoutLaws.{code_point_within, code_point_is}
use Rattle.tca_templates.proofs.record.Record.code_point.Goals as goal

pub value_at-requires : goal.value_at-requires
value_at-requires c = code_point_within c.self.inside.template.now.specs.items c.self.inside.spots.now c.self.inside.octets.now c.self.invariant.0

pub returns : goal.returns
returns c = rw (← c.self.view_is) (c.value_at.ensures ∙ code_point_is c.self.inside.template.now.specs.items c.self.inside.spots.now c.self.inside.octets.now c.self.invariant.0)
