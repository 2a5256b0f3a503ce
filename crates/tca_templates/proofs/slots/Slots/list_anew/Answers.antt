use Rattle.std.proofs.Common.{List, ap, sym, ◌∙◌}
use Rattle.std.specs.Prelude.{Option, slice_get}
use Rattle.tca_templates.specs.declared.template.Template.{Template}
use Rattle.tca_templates.specs.Templates.{Key}
use Rattle.tca_templates.proofs.StepLaws.{no_steps}
use Rattle.tca_templates.proofs.slots.Slots.list_anew.Goals as goal

pub invariant_of-self : goal.invariant_of-self
invariant_of-self c =
    let none = sym c.is_some.ensures ∙ c.if-is_some.false in (
      c.self.invariant.0,
      record {
        slots_in = λ i s e. c.in_ok-self-inside.ensures i s (ap (λ (ss : List (Option (Key × Template))). slice_get ss i) c.deref.ensures.value ∙ e);
        steps_in = no_steps _ c.self.inside.steps _ none;
      },
    )
