use Rattle.std.proofs.Common.{◌≡◌, ℕ, List, Option, filter, length, take, refl, ap, subst, arith, ◌∙◌, add-one}
use Rattle.std.specs.Prelude.{Some, None, slice_get, if◌then◌else◌}
use Rattle.std.specs.Option.{is_some}
use Rattle.std.proofs.lemmas.Option.{slice_get_read}
use Rattle.tca_templates.specs.declared.template.Template.{Template}
use Rattle.tca_templates.specs.Templates.{Key, same_key}
use Rattle.tca_templates.specs.inside.Slotted.{held, IsSlotted}
use Rattle.tca_templates.proofs.SlotLaws.{slotted_none, slotted_push, take_more, take_all, take_count, none_before, full_place, full_push, full_gap, full_count, filled_full, filled_few}
use Rattle.tca_templates.proofs.slots.numbered.Goals.{in-Some+in_ok-enter_place, in_default}
use Rattle.tca_templates.proofs.slots.numbered.Goals as goal

pub loop-slot-init : goal.loop-slot-init
loop-slot-init c = rw c.new-places.ensures.empty slotted_none

pub overflow_add-count : goal.overflow_add-count
overflow_add-count c =
    let front = take c.loop-slot.slot-index c.args.slots.now in
    omega (arith, c.loop-slot.invariant.counted, ap length (filled_full front), filled_few front, take_count c.args.slots.now c.loop-slot.slot-index (omega (arith, c.loop-slot-test.true)), c.loop-slot-test.true)

pub loop-slot-preserved : goal.loop-slot-preserved
loop-slot-preserved c =
    let ss = c.args.slots.now in
    let i = c.loop-slot.slot-index in
    let front = take i ss in
    let ps = c.loop-slot.places.entries in
    let read : slice_get ss i ≡ Some c.slot-item.result = slice_get_read ss (length ss) i c.slot-item.result refl c.loop-slot-test.true c.slot-item.is in
    elim c.match-slot.branch [
      | in-Some+in_ok-enter_place w ↦
          let one : Key × Template = (w.in-Some.key, w.in-Some.field-0-1) in
          let there : slice_get ss i ≡ Some (Some one) = read ∙ ap (λ s. Some s) w.in-Some.is in
          let count : c.loop-slot.count ≡ length (filter is_some front) = omega (arith, c.loop-slot.invariant.counted, ap length (filled_full front), full_count front) in
          rw (w.places-is, w.count-is, add-one, take_more ss i (Some one) there, full_push front one)
          (slotted_push one.0 one.1 (filter is_some front) ps w.enter_place.new.places.entries _ _ c.loop-slot.invariant (full_place one.0 front (none_before ss i one c.requires there))
          (λ j. w.in_ok-enter_place.ensures.held j ∙ ap (λ n. if same_key one.0 j then Some n else held ps j) count) w.in_ok-enter_place.ensures.few refl)
      | in_default w ↦
          let there : slice_get ss i ≡ Some None = read ∙ ap (λ s. Some s) w.in_default.is in
          rw (w.places-is, w.count-is, add-one, take_more ss i None there, full_gap front) c.loop-slot.invariant
    ]

pub returns : goal.returns
returns c =
    let ss = c.args.slots.now in
    let all = subst (λ (ts : List (Option (Key × Template))). IsSlotted (filter is_some ts) c.loop-slot.places.entries c.loop-slot.count) (take_all ss c.loop-slot.slot-index c.loop-slot-test.false) c.loop-slot.invariant in
    subst (λ (n : ℕ). IsSlotted (filter is_some ss) c.loop-slot.places.entries n) (all.counted ∙ ap length (filled_full ss)) all
