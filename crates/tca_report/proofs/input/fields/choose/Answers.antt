use Rattle.std.proofs.Common.{◌∙◌, sym, map}
use Rattle.tca_templates.specs.Outcomes.{value_view}
use Rattle.tca_report.proofs.lemmas.input.FirstField.{choice_here, choice_next, choice_nowhere}
use Rattle.tca_report.proofs.input.fields.choose.Goals as goal

pub returns-in-Some : goal.returns-in-Some
returns-in-Some c = sym (choice_here c.args.elements.now (map value_view c.args.fields.now) c.loop-element.element-index _ c.loop-element-test.true (sym c.in-Some.ensures)) ∙ c.loop-element.invariant

pub loop-element-preserved : goal.loop-element-preserved
loop-element-preserved c = sym (choice_next c.args.elements.now (map value_view c.args.fields.now) c.loop-element.element-index c.loop-element-test.true (sym c.in_default.ensures)) ∙ c.loop-element.invariant

pub returns : goal.returns
returns c = sym (choice_nowhere c.args.elements.now (map value_view c.args.fields.now) c.loop-element.element-index c.loop-element-test.false) ∙ c.loop-element.invariant
