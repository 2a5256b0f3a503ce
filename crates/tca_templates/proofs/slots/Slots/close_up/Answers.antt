use Rattle.std.proofs.lemmas.Grind.{common_steps}
use Rattle.std.proofs.Common.{rules, ◌≡◌, ℕ, List, Option, length, arith, sym, ap, subst, filter, ◌∙◌}
use Rattle.std.specs.Prelude.{slice_get}
use Rattle.std.specs.Option.{is_some}
use Rattle.std.proofs.lemmas.Fn.{filter_same}
use Rattle.tca_templates.specs.Templates.{Key}
use Rattle.tca_templates.specs.declared.template.Template.{Template}
use Rattle.tca_templates.specs.inside.Slotted.{filled, IsApart, IsSlotted}
use Rattle.tca_templates.proofs.CoverLaws.{full_in}
use Rattle.tca_templates.proofs.SlotLaws.{filled_full, filled_few}
use Rattle.tca_templates.proofs.StepLaws.{no_before, no_steps}
use Rattle.tca_templates.proofs.slots.Slots.close_up.Goals as goal

pub numbered-requires : goal.numbered-requires
numbered-requires c = subst (λ (ss : List (Option (Key × Template))). IsApart ss) (sym c.deref.ensures.value) c.self.invariant.0.slotted.apart

pub invariant_of-self : goal.invariant_of-self
invariant_of-self c =
    let full : c.retain.new.self.items ≡ filter is_some c.self.inside.slots.items = filter_same _ _ _ (λ x b f' k. search rules) _ _ c.retain.ensures.filtered in
    let none = sym c.is_some.ensures ∙ c.if-is_some.false in
    let slotted = subst (λ (ss : List (Option (Key × Template))). IsSlotted (filter is_some ss) c.in-Ok.places.entries (length (filled ss))) c.deref.ensures.value c.in-Ok.ensures in
    let counted = subst (λ (n : ℕ). IsSlotted (filter is_some c.self.inside.slots.items) c.in-Ok.places.entries n) (sym c.self.invariant.0.slotted.counted) slotted in (
      record {
        slotted = subst (λ (ss : List (Option (Key × Template))). IsSlotted ss c.in-Ok.places.entries c.self.inside.count) (sym full) counted;
        steps_back = no_steps _ c.self.inside.steps _ none;
        entered = no_steps _ c.self.inside.steps _ none;
      },
      record {
        slots_in = λ i s e. full_in c.self.inside.slots.items c.self.inside.kinds.entries c.self.invariant.1.slots_in i s (ap (λ (ss : List (Option (Key × Template))). slice_get ss i) (sym full) ∙ e);
        steps_in = no_steps _ c.self.inside.steps _ none;
      },
    )

pub returns : goal.returns
returns c =
    let full : c.retain.new.self.items ≡ filter is_some c.self.inside.slots.items = filter_same _ _ _ (λ x b f' k. search rules) _ _ c.retain.ensures.filtered in
    let all = ap filled full ∙ filled_full c.self.inside.slots.items in
    let none = sym c.is_some.ensures ∙ c.if-is_some.false in
    let before = no_before _ c.self.inside.steps c.retain.new.self.items c.self.inside.slots.items none in
    (λ i. record { known = all i; before = before i }) ∙ c.self.view_is

pub overflow_sub-empty : goal.overflow_sub-empty
overflow_sub-empty c = omega (arith, c.len.ensures, c.self.invariant.0.slotted.counted, filled_few c.self.inside.slots.items)

pub returns-then-is_some : goal.returns-then-is_some
returns-then-is_some c = grind (arith, common_steps)

pub returns-then-empty-lt-FEWEST_EMPTY : goal.returns-then-empty-lt-FEWEST_EMPTY
returns-then-empty-lt-FEWEST_EMPTY c = grind (arith, common_steps)
