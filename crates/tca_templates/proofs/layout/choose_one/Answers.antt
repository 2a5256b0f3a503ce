use Rattle.std.proofs.Common.{sym, ◌∙◌}
use Rattle.tca_templates.proofs.LayoutSteps.{chosen_here, chosen_next, chosen_nowhere}
use Rattle.tca_templates.proofs.layout.choose_one.Goals as goal

pub returns-then-has_element : goal.returns-then-has_element
returns-then-has_element c =
    sym (chosen_here c.args.elements.now c.args.specs.now c.loop-element.element-index c.loop-element-test.true (sym c.has_element.ensures ∙ c.if-has_element.true)) ∙ c.loop-element.invariant

pub loop-element-preserved : goal.loop-element-preserved
loop-element-preserved c =
    sym (chosen_next c.args.elements.now c.args.specs.now c.loop-element.element-index c.loop-element-test.true (sym c.has_element.ensures ∙ c.if-has_element.false)) ∙ c.loop-element.invariant

pub returns : goal.returns
returns c = sym (chosen_nowhere c.args.elements.now c.args.specs.now c.loop-element.element-index c.loop-element-test.false) ∙ c.loop-element.invariant
