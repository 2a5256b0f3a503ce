use Rattle.std.proofs.Common.{◌∙◌, List, ℕ, Some, sym, ap}
use Rattle.tca_templates.specs.Outcomes.{value_view}
use Rattle.tca_report.proofs.lemmas.input.FirstField.{found_here, not_here, nowhere}
use Rattle.tca_report.proofs.input.fields.find.Goals as goal

pub returns-then-found : goal.returns-then-found
returns-then-found c =
    ap (λ (v : List ℕ). Some v) c.as_slice.ensures.value
    ∙ sym (found_here value_view c.args.element c.args.fields.now c.loop-field.field-index c.field-item.result c.loop-field-test.true c.field-item.is (sym c.is_element-found.ensures ∙ c.if-found.true))
    ∙ c.loop-field.invariant

pub loop-field-preserved : goal.loop-field-preserved
loop-field-preserved c =
    sym (not_here value_view c.args.element c.args.fields.now c.loop-field.field-index c.field-item.result c.loop-field-test.true c.field-item.is (sym c.is_element-found.ensures ∙ c.if-found.false))
    ∙ c.loop-field.invariant

pub returns : goal.returns
returns c = sym (nowhere value_view c.args.element c.args.fields.now c.loop-field.field-index c.loop-field-test.false) ∙ c.loop-field.invariant
