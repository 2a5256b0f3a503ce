use Rattle.std.proofs.Common.{◌≡◌, drop, map}
use Rattle.tca_templates.specs.Chosen.{first}
use Rattle.tca_templates.specs.Outcomes.{value_view}
use Rattle.tca_report.proofs.input.fields.find.Given as goal

abbrev pub invariant-loop-field : goal.invariant-loop-field
invariant-loop-field l = first l.element (map value_view (drop l.field-index l.fields)) ≡ first l.element (map value_view l.fields)
