use Rattle.std.proofs.Common.{sym, ◌∙◌}
use Rattle.tca_templates.proofs.SteppedFields.{steps_more, steps_past, steps_all}
use Rattle.tca_templates.proofs.layout.steps_of.Goals.{then-take_field+in_ok-push, else-take_field}
use Rattle.tca_templates.proofs.layout.steps_of.Goals as goal

pub loop-place-preserved : goal.loop-place-preserved
loop-place-preserved c = rw c.take_field.ensures.left (elim c.if-take_field.branch [
  | then-take_field+in_ok-push w ↦
      rw (w.steps-is, w.in_ok-push.ensures.items)
      (steps_more c.loop-place.left c.args.specs.now c.loop-place.place c.loop-place.steps.items c.loop-place-test.true (sym c.take_field.ensures.step ∙ w.if-take_field.true) ∙ c.loop-place.invariant)
  | else-take_field w ↦
      rw w.steps-is
      (steps_past c.loop-place.left c.args.specs.now c.loop-place.place c.loop-place.steps.items c.loop-place-test.true (sym c.take_field.ensures.step ∙ w.if-take_field.false) ∙ c.loop-place.invariant)
])

pub returns : goal.returns
returns c = sym (steps_all c.loop-place.left c.args.specs.now c.loop-place.place c.loop-place.steps.items c.loop-place-test.false) ∙ c.loop-place.invariant
