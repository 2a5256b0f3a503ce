use Rattle.std.proofs.Common.{◌≡◌, drop, map}
use Rattle.tca_templates.specs.Chosen.{choice}
use Rattle.tca_templates.specs.Outcomes.{value_view}
use Rattle.tca_report.proofs.input.fields.choose.Given as goal

abbrev pub invariant-loop-element : goal.invariant-loop-element
invariant-loop-element l = choice (drop l.element-index l.elements) (map value_view l.fields) ≡ choice l.elements (map value_view l.fields)
