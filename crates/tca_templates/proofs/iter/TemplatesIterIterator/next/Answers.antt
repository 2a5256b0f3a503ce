use Rattle.std.proofs.lemmas.Grind.{common_steps}
use Rattle.std.proofs.Common.{◌∷◌, List, Option, refl, ap, sym, arith, length, ◌∙◌}
use Rattle.std.specs.Slice.Iter.{iter_rest}
use Rattle.tca_templates.specs.declared.template.Template.{Template}
use Rattle.tca_templates.specs.Templates.{Key, listed}
use Rattle.tca_templates.specs.Fields.{entries_of}
use Rattle.tca_templates.specs.inside.Slotted.{filled}
use Rattle.tca_templates.proofs.SlotLaws.{filled_none}
use Rattle.tca_templates.proofs.iter.TemplatesIterIterator.next.Goals as goal

pub loop-slot-init : goal.loop-slot-init
loop-slot-init c = refl

pub returns-in-Some-slot-clause-steps : goal.returns-in-Some-slot-clause-steps
returns-in-Some-slot-clause-steps c =
    sym c.self.view_is
    ∙ ap (λ (es : List (Key × Template)). listed (entries_of es)) (sym c.loop-slot.invariant ∙ ap filled c.in-Some.ensures.steps
    ∙ ap (λ (s : Option (Key × Template)). filled (s ∷ iter_rest c.next.new.self)) c.in-Some-slot.is)

pub returns-in-Some-slot-clause-goes : goal.returns-in-Some-slot-clause-goes
returns-in-Some-slot-clause-goes c =
    let steps = sym c.self.view_is
    ∙ ap (λ (es : List (Key × Template)). listed (entries_of es)) (sym c.loop-slot.invariant ∙ ap filled c.in-Some.ensures.steps
    ∙ ap (λ (s : Option (Key × Template)). filled (s ∷ iter_rest c.next.new.self)) c.in-Some-slot.is) in
    let shorter = ap length steps in
    record { on = λ f. (tt, tt, omega (arith, shorter)); keeps = tt; rests = λ f. tt }

pub loop-slot-smaller : goal.loop-slot-smaller
loop-slot-smaller c = let shorter = ap length c.in-Some.ensures.steps in omega (arith, shorter)

pub loop-slot-preserved : goal.loop-slot-preserved
loop-slot-preserved c =
    sym (ap filled c.in-Some.ensures.steps ∙ ap (λ (s : Option (Key × Template)). filled (s ∷ iter_rest c.next.new.self)) c.in_default-slot.is) ∙ c.loop-slot.invariant

pub returns-clause-steps : goal.returns-clause-steps
returns-clause-steps c =
    let none = filled_none (iter_rest c.loop-slot.self-inside.left) c.in_default.ensures.steps.0 in (
      sym c.self.view_is ∙ ap (λ (es : List (Key × Template)). listed (entries_of es)) (sym c.loop-slot.invariant ∙ none),
      ap (λ t. listed (entries_of (filled (iter_rest t)))) c.in_default.ensures.steps.1 ∙ ap (λ (es : List (Key × Template)). listed (entries_of es)) none,
    )

pub returns-clause-goes : goal.returns-clause-goes
returns-clause-goes c = grind (arith, common_steps)
