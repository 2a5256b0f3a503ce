use Rattle.std.proofs.lemmas.Grind.{common_steps}
use Rattle.std.proofs.Common.{◌≡◌, ◌+◌, ◌-◌, List, ◌∷◌, ◌++◌, [], length, set, refl, ap, sym, subst, true, arith, ◌∙◌}
use Rattle.std.specs.Prelude.{Option, Some, None, slice_get}
use Rattle.std.proofs.lemmas.Option.{slice_get_read}
use Rattle.tca_templates.specs.declared.template.Template.{Template}
use Rattle.tca_templates.specs.Templates.{Key}
use Rattle.tca_templates.specs.inside.Slotted.{IsCovered, filled, place_of, is_entered, IsApart, IsSlotted, Step, undone, AreSteps, IsEntered, AreEntered}
use Rattle.tca_templates.proofs.SlotLaws.{leads_back, slotted_out, count_out, filled_few}
use Rattle.tca_templates.proofs.StepLaws.{undone_last, steps_last, slotted_in, emptied, Stay, entered_last, all_stay, held_entered, kept_as, kept_back}
use Rattle.tca_templates.proofs.CoverLaws.{covered_as, covered_again, covered_back}
use Rattle.tca_templates.proofs.slots.Slots.put_back.Goals.{in-Some-index, in_default-index, in-Some-slot, in_default-slot}
use Rattle.tca_templates.proofs.slots.Slots.put_back.Goals as goal

pub index-requires : goal.index-requires
index-requires c =
    let ss = c.loop-place.self-inside.slots.items in
    let us = c.pop.new.self.items in
    let p = c.in-Some-pop.place in
    let s = c.in-Some-pop.slot in
    let items : c.loop-place.steps.items ≡ us ++ (p, s) ∷ [] = c.in-Some-pop.ensures.items in
    let all : AreSteps (us ++ (p, s) ∷ []) ss = subst (λ (vs : List (Step Template)). AreSteps vs ss) items c.loop-place.invariant.kept.steps_back in
    let last = steps_last us p s ss all in
    omega (arith, last.1)

pub index_mut-requires : goal.index_mut-requires
index_mut-requires c =
    let ss = c.loop-place.self-inside.slots.items in
    let us = c.pop.new.self.items in
    let p = c.in-Some-pop.place in
    let s = c.in-Some-pop.slot in
    let items : c.loop-place.steps.items ≡ us ++ (p, s) ∷ [] = c.in-Some-pop.ensures.items in
    let all : AreSteps (us ++ (p, s) ∷ []) ss = subst (λ (vs : List (Step Template)). AreSteps vs ss) items c.loop-place.invariant.kept.steps_back in
    let last = steps_last us p s ss all in
    let same : c.match-slot.self-inside.slots.items ≡ ss = elim c.match-slot.branch [
      | in-Some-slot w ↦ rw w.self-inside-is (elim c.match-index.branch [ in-Some-index v ↦ rw v.self-inside-is refl | in_default-index v ↦ rw v.self-inside-is refl ])
      | in_default-slot w ↦ rw w.self-inside-is (elim c.match-index.branch [ in-Some-index v ↦ rw v.self-inside-is refl | in_default-index v ↦ rw v.self-inside-is refl ])
    ] in
    omega (arith, ap length same, last.1)

pub set_place-requires : goal.set_place-requires
set_place-requires c =
    let ss = c.loop-place.self-inside.slots.items in
    let us = c.pop.new.self.items in
    let p = c.in-Some-pop.place in
    let s = c.in-Some-pop.slot in
    let items : c.loop-place.steps.items ≡ us ++ (p, s) ∷ [] = c.in-Some-pop.ensures.items in
    let last = steps_last us p s ss (subst (λ (vs : List (Step Template)). AreSteps vs ss) items c.loop-place.invariant.kept.steps_back) in
    let here : slice_get ss p ≡ Some c.index.result.now = slice_get_read ss (length ss) p c.index.result.now refl last.1 c.index.ensures in
    let one : Key × Template = (c.in-Some-index.key, c.in-Some-index.field-0-1) in
    let place : place_of one.0 ss ≡ Some p = leads_back ss p one c.loop-place.invariant.kept.slotted.apart (here ∙ ap (λ z. Some z) c.in-Some-index.is) in
    held_entered c.loop-place.self-inside.places.entries one.0 p (c.loop-place.invariant.kept.slotted.found one.0 ∙ place)

pub overflow_sub-self : goal.overflow_sub-self
overflow_sub-self c =
    let ss = c.loop-place.self-inside.slots.items in
    let us = c.pop.new.self.items in
    let p = c.in-Some-pop.place in
    let s = c.in-Some-pop.slot in
    let items : c.loop-place.steps.items ≡ us ++ (p, s) ∷ [] = c.in-Some-pop.ensures.items in
    let last = steps_last us p s ss (subst (λ (vs : List (Step Template)). AreSteps vs ss) items c.loop-place.invariant.kept.steps_back) in
    let here : slice_get ss p ≡ Some c.index.result.now = slice_get_read ss (length ss) p c.index.result.now refl last.1 c.index.ensures in
    let one : Key × Template = (c.in-Some-index.key, c.in-Some-index.field-0-1) in
    let place : place_of one.0 ss ≡ Some p = leads_back ss p one c.loop-place.invariant.kept.slotted.apart (here ∙ ap (λ z. Some z) c.in-Some-index.is) in
    omega (arith, c.loop-place.invariant.kept.slotted.counted, count_out one.0 ss p place)

pub set_place-requires-in-Some-slot : goal.set_place-requires-in-Some-slot
set_place-requires-in-Some-slot c =
    let ps = c.loop-place.self-inside.places.entries in
    let us = c.pop.new.self.items in
    let p = c.in-Some-pop.place in
    let s = c.in-Some-pop.slot in
    let items : c.loop-place.steps.items ≡ us ++ (p, s) ∷ [] = c.in-Some-pop.ensures.items in
    let entered = entered_last ps us p s (subst (λ (vs : List (Step Template)). AreEntered ps vs) items c.loop-place.invariant.kept.entered) in
    let one : Key × Template = (c.in-Some-slot.key, c.in-Some-slot.template) in
    let there : is_entered ps one.0 ≡ true = subst (λ (z : Option (Key × Template)). IsEntered ps z) c.in-Some-slot.is entered.1 in
    elim c.match-index.branch [
      | in-Some-index w ↦ rw w.self-inside-is (w.set_place.ensures.entered one.0 there)
      | in_default-index w ↦ rw w.self-inside-is there
    ]

pub overflow_add-self : goal.overflow_add-self
overflow_add-self c =
    let ss = c.loop-place.self-inside.slots.items in
    elim c.match-index.branch [
      | in-Some-index w ↦ rw w.self-inside-is (omega (arith, c.loop-place.invariant.kept.slotted.counted, filled_few ss, c.loop-place.self-inside.slots.small))
      | in_default-index w ↦ rw w.self-inside-is (omega (arith, c.loop-place.invariant.kept.slotted.counted, filled_few ss, c.loop-place.self-inside.slots.small))
    ]

pub loop-place-preserved-after-slot : goal.loop-place-preserved-after-slot
loop-place-preserved-after-slot c =
    let ss = c.loop-place.self-inside.slots.items in
    let us = c.pop.new.self.items in
    let p = c.in-Some-pop.place in
    let s = c.in-Some-pop.slot in
    let items : c.loop-place.steps.items ≡ us ++ (p, s) ∷ [] = c.in-Some-pop.ensures.items in
    let all : AreSteps (us ++ (p, s) ∷ []) ss = subst (λ (vs : List (Step Template)). AreSteps vs ss) items c.loop-place.invariant.kept.steps_back in
    let last = steps_last us p s ss all in
    let ps = c.loop-place.self-inside.places.entries in
    let entered = entered_last ps us p s (subst (λ (vs : List (Step Template)). AreEntered ps vs) items c.loop-place.invariant.kept.entered) in
    let here : slice_get ss p ≡ Some c.index.result.now = slice_get_read ss (length ss) p c.index.result.now refl last.1 c.index.ensures in
    let out : (c.match-index.self-inside.slots.items ≡ ss) × IsSlotted (set ss p None) c.match-index.self-inside.places.entries c.match-index.self-inside.count
    × Stay ps c.match-index.self-inside.places.entries × (c.match-index.self-inside.steps ≡ None) = elim c.match-index.branch [
      | in-Some-index w ↦
          let one : Key × Template = (w.in-Some-index.key, w.in-Some-index.field-0-1) in
          let place : place_of one.0 ss ≡ Some p = leads_back ss p one c.loop-place.invariant.kept.slotted.apart (here ∙ ap (λ z. Some z) w.in-Some-index.is) in
          let n = c.loop-place.self-inside.count in
          let less : (n - 1) + 1 ≡ n = omega (arith, c.loop-place.invariant.kept.slotted.counted, count_out one.0 ss p place) in
          rw w.self-inside-is (refl, slotted_out one.0 ss ps w.set_place.new.places.entries n (n - 1) p c.loop-place.invariant.kept.slotted place w.set_place.ensures.held w.set_place.ensures.as_many less, w.set_place.ensures.entered, c.loop-place.invariant.none)
      | in_default-index w ↦
          rw w.self-inside-is (refl, emptied ss ps _ p (here ∙ ap (λ z. Some z) w.in_default-index.is) c.loop-place.invariant.kept.slotted, λ j e. e, c.loop-place.invariant.none)
    ] in
    let after : (c.match-slot.self-inside.slots.items ≡ ss) × IsSlotted (set ss p s) c.match-slot.self-inside.places.entries c.match-slot.self-inside.count
    × Stay ps c.match-slot.self-inside.places.entries × (c.match-slot.self-inside.steps ≡ None) = elim c.match-slot.branch [
      | in-Some-slot w ↦
          let one : Key × Template = (w.in-Some-slot.key, w.in-Some-slot.template) in
          let apart : IsApart (set ss p (Some one)) = subst (λ (z : Option (Key × Template)). IsApart (set ss p z)) w.in-Some-slot.is last.2 in
          rw w.self-inside-is (
            out.0,
            subst (λ (z : Option (Key × Template)). IsSlotted (set ss p z) w.set_place-in-Some-slot.new.places.entries (c.match-index.self-inside.count + 1)) (sym w.in-Some-slot.is)
                (slotted_in one.0 one.1 ss c.match-index.self-inside.places.entries w.set_place-in-Some-slot.new.places.entries _ _ p last.1 apart out.1 w.set_place-in-Some-slot.ensures.held w.set_place-in-Some-slot.ensures.as_many refl),
            (λ j e. w.set_place-in-Some-slot.ensures.entered j (out.2 j e)),
            out.3,
          )
      | in_default-slot w ↦
          rw w.self-inside-is (
            out.0,
            subst (λ (z : Option (Key × Template)). IsSlotted (set ss p z) c.match-index.self-inside.places.entries c.match-index.self-inside.count) (sym w.in_default-slot.is) out.1,
            out.2,
            out.3,
          )
    ] in
    let base : IsCovered ss c.match-index.self-inside.kinds.entries (Some c.loop-place.steps.items) = elim c.match-index.branch [
      | in-Some-index v ↦ rw v.self-inside-is c.loop-place.invariant.covered
      | in_default-index v ↦ rw v.self-inside-is c.loop-place.invariant.covered
    ] in
    let covered : IsCovered (set ss p s) c.match-slot.self-inside.kinds.entries (Some us) = elim c.match-slot.branch [
      | in-Some-slot w ↦
          let one : Key × Template = (w.in-Some-slot.key, w.in-Some-slot.template) in
          rw w.self-inside-is (subst (λ (z : Option (Key × Template)). IsCovered (set ss p z) w.go_back.new.kinds.entries (Some us)) (sym w.in-Some-slot.is)
          (covered_again ss _ w.go_back.new.kinds.entries us _ p one (items ∙ ap (λ (z : Option (Key × Template)). us ++ (p, z) ∷ []) w.in-Some-slot.is)
          w.go_back.ensures.ahead w.go_back.ensures.among w.go_back.ensures.all base))
      | in_default-slot w ↦
          rw w.self-inside-is (subst (λ (z : Option (Key × Template)). IsCovered (set ss p z) c.match-index.self-inside.kinds.entries (Some us)) (sym w.in_default-slot.is)
          (covered_back ss _ us _ p (items ∙ ap (λ (z : Option (Key × Template)). us ++ (p, z) ∷ []) w.in_default-slot.is) base))
    ] in
    record {
      covered = covered_as (set ss p s) _ _ _ _ (ap (λ zs. set zs p s) after.0) refl covered;
      kept = kept_as _ _ _ _ _ _ (ap (λ zs. set zs p s) after.0) refl (kept_back us p s ss c.match-slot.self-inside.places.entries _ all after.1 (all_stay ps _ after.2 us entered.0));
      before = ap (λ (zs : List (Option (Key × Template))). filled (undone us (set zs p s))) after.0 ∙ sym (ap filled (undone_last us p s ss))
          ∙ ap (λ (vs : List (Step Template)). filled (undone vs ss)) (sym items) ∙ c.loop-place.invariant.before;
      none = after.3;
    }

pub loop-place-preserved : goal.loop-place-preserved
loop-place-preserved c =
    let ss = c.loop-place.self-inside.slots.items in
    let us = c.pop.new.self.items in
    let p = c.in-Some-pop.place in
    let s = c.in-Some-pop.slot in
    let items : c.loop-place.steps.items ≡ us ++ (p, s) ∷ [] = c.in-Some-pop.ensures.items in
    let all : AreSteps (us ++ (p, s) ∷ []) ss = subst (λ (vs : List (Step Template)). AreSteps vs ss) items c.loop-place.invariant.kept.steps_back in
    let last = steps_last us p s ss all in
    let ps = c.loop-place.self-inside.places.entries in
    let entered = entered_last ps us p s (subst (λ (vs : List (Step Template)). AreEntered ps vs) items c.loop-place.invariant.kept.entered) in
    let here : slice_get ss p ≡ Some c.index.result.now = slice_get_read ss (length ss) p c.index.result.now refl last.1 c.index.ensures in
    let out : (c.match-index.self-inside.slots.items ≡ ss) × IsSlotted (set ss p None) c.match-index.self-inside.places.entries c.match-index.self-inside.count
    × Stay ps c.match-index.self-inside.places.entries × (c.match-index.self-inside.steps ≡ None) = elim c.match-index.branch [
      | in-Some-index w ↦
          let one : Key × Template = (w.in-Some-index.key, w.in-Some-index.field-0-1) in
          let place : place_of one.0 ss ≡ Some p = leads_back ss p one c.loop-place.invariant.kept.slotted.apart (here ∙ ap (λ z. Some z) w.in-Some-index.is) in
          let n = c.loop-place.self-inside.count in
          let less : (n - 1) + 1 ≡ n = omega (arith, c.loop-place.invariant.kept.slotted.counted, count_out one.0 ss p place) in
          rw w.self-inside-is (refl, slotted_out one.0 ss ps w.set_place.new.places.entries n (n - 1) p c.loop-place.invariant.kept.slotted place w.set_place.ensures.held w.set_place.ensures.as_many less, w.set_place.ensures.entered, c.loop-place.invariant.none)
      | in_default-index w ↦
          rw w.self-inside-is (refl, emptied ss ps _ p (here ∙ ap (λ z. Some z) w.in_default-index.is) c.loop-place.invariant.kept.slotted, λ j e. e, c.loop-place.invariant.none)
    ] in
    let after : (c.match-slot.self-inside.slots.items ≡ ss) × IsSlotted (set ss p s) c.match-slot.self-inside.places.entries c.match-slot.self-inside.count
    × Stay ps c.match-slot.self-inside.places.entries × (c.match-slot.self-inside.steps ≡ None) = elim c.match-slot.branch [
      | in-Some-slot w ↦
          let one : Key × Template = (w.in-Some-slot.key, w.in-Some-slot.template) in
          let apart : IsApart (set ss p (Some one)) = subst (λ (z : Option (Key × Template)). IsApart (set ss p z)) w.in-Some-slot.is last.2 in
          rw w.self-inside-is (
            out.0,
            subst (λ (z : Option (Key × Template)). IsSlotted (set ss p z) w.set_place-in-Some-slot.new.places.entries (c.match-index.self-inside.count + 1)) (sym w.in-Some-slot.is)
                (slotted_in one.0 one.1 ss c.match-index.self-inside.places.entries w.set_place-in-Some-slot.new.places.entries _ _ p last.1 apart out.1 w.set_place-in-Some-slot.ensures.held w.set_place-in-Some-slot.ensures.as_many refl),
            (λ j e. w.set_place-in-Some-slot.ensures.entered j (out.2 j e)),
            out.3,
          )
      | in_default-slot w ↦
          rw w.self-inside-is (
            out.0,
            subst (λ (z : Option (Key × Template)). IsSlotted (set ss p z) c.match-index.self-inside.places.entries c.match-index.self-inside.count) (sym w.in_default-slot.is) out.1,
            out.2,
            out.3,
          )
    ] in
    let base : IsCovered ss c.match-index.self-inside.kinds.entries (Some c.loop-place.steps.items) = elim c.match-index.branch [
      | in-Some-index v ↦ rw v.self-inside-is c.loop-place.invariant.covered
      | in_default-index v ↦ rw v.self-inside-is c.loop-place.invariant.covered
    ] in
    let covered : IsCovered (set ss p s) c.match-slot.self-inside.kinds.entries (Some us) = elim c.match-slot.branch [
      | in-Some-slot w ↦
          let one : Key × Template = (w.in-Some-slot.key, w.in-Some-slot.template) in
          rw w.self-inside-is (subst (λ (z : Option (Key × Template)). IsCovered (set ss p z) w.go_back.new.kinds.entries (Some us)) (sym w.in-Some-slot.is)
          (covered_again ss _ w.go_back.new.kinds.entries us _ p one (items ∙ ap (λ (z : Option (Key × Template)). us ++ (p, z) ∷ []) w.in-Some-slot.is)
          w.go_back.ensures.ahead w.go_back.ensures.among w.go_back.ensures.all base))
      | in_default-slot w ↦
          rw w.self-inside-is (subst (λ (z : Option (Key × Template)). IsCovered (set ss p z) c.match-index.self-inside.kinds.entries (Some us)) (sym w.in_default-slot.is)
          (covered_back ss _ us _ p (items ∙ ap (λ (z : Option (Key × Template)). us ++ (p, z) ∷ []) w.in_default-slot.is) base))
    ] in
    record {
      covered = covered_as (set ss p s) _ _ _ _ (ap (λ zs. set zs p s) after.0) refl covered;
      kept = kept_as _ _ _ _ _ _ (ap (λ zs. set zs p s) after.0) refl (kept_back us p s ss c.match-slot.self-inside.places.entries _ all after.1 (all_stay ps _ after.2 us entered.0));
      before = ap (λ (zs : List (Option (Key × Template))). filled (undone us (set zs p s))) after.0 ∙ sym (ap filled (undone_last us p s ss))
          ∙ ap (λ (vs : List (Step Template)). filled (undone vs ss)) (sym items) ∙ c.loop-place.invariant.before;
      none = after.3;
    }

pub invariant_of-self : goal.invariant_of-self
invariant_of-self c = grind (arith, common_steps)

pub returns-in_default : goal.returns-in_default
returns-in_default c = grind (arith, common_steps)

pub invariant_of-self-in_default-pop : goal.invariant_of-self-in_default-pop
invariant_of-self-in_default-pop c = grind (arith, common_steps)

pub returns : goal.returns
returns c = grind (arith, common_steps)
