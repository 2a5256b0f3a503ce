use Rattle.std.proofs.lemmas.Grind.{common_steps}
use Rattle.std.proofs.Common.{◌≡◌, List, ◌∷◌, ◌++◌, [], length, refl, ap, arith, ◌∙◌}
use Rattle.std.specs.Prelude.{Option, Some, None, if◌then◌else◌}
use Rattle.std.specs.Map.{lookup}
use Rattle.tca_templates.specs.declared.template.Template.{Template}
use Rattle.tca_templates.specs.Templates.{Key, same_key, define}
use Rattle.tca_templates.specs.Fields.{SlotsView, template_of, entries_of}
use Rattle.tca_templates.specs.inside.Slotted.{place_of, filled, held}
use Rattle.tca_templates.proofs.Stored.{templates-insert}
use Rattle.tca_templates.proofs.SlotLaws.{placed, filled_push, filled_few}
use Rattle.tca_templates.proofs.StepLaws.{kept_as, kept_same, kept_push, before_push}
use Rattle.tca_templates.proofs.CoverLaws.{covered_push, covered_ahead, covered_as}
use Rattle.tca_templates.proofs.slots.Slots.push.Goals as goal

pub invariant_of-self-2 : goal.invariant_of-self-2
invariant_of-self-2 c =
    let ss = c.self.inside.slots.items in
    let ps = c.self.inside.places.entries in
    let key : Key = c.args.key in
    let known = ap (λ (v : SlotsView). v.known) c.self.view_is in
    let place : place_of key ss ≡ None = placed key ss (ap (lookup (same_key key)) known ∙ c.requires) in
    let room = kept_as ss ss _ _ _ _ refl c.make_room.ensures.steps c.self.invariant.0 in
    let last : c.len-place.result ≡ length ss = omega (arith, c.len-place.ensures, c.reserve.ensures.len) in
    let all = c.in_ok-push.ensures.items ∙ ap (λ (ts : List (Option (Key × Template))). ts ++ Some (key, c.args.template) ∷ []) c.reserve.ensures.items in (
      kept_as _ _ _ _ _ _ all c.note.ensures
          (kept_push key c.args.template ss ps c.enter_place.new.places.entries _ _ _ _ room place last
          (λ j. c.in_ok-enter_place.ensures.held j ∙ ap (λ n. if same_key key j then Some n else held ps j) last) c.in_ok-enter_place.ensures.entered c.in_ok-enter_place.ensures.few refl),
      covered_push ss _ _ _ _ _ c.len-place.result (Some (key, c.args.template)) all c.note.ensures c.make_room.ensures.steps
          (covered_ahead ss _ _ _ c.list.ensures.ahead c.list.ensures.among c.self.invariant.1) c.in_ok-list.ensures.ok,
    )

pub returns-clause-before : goal.returns-clause-before
returns-clause-before c =
    let ss = c.self.inside.slots.items in
    let room = kept_as ss ss _ _ _ _ refl c.make_room.ensures.steps c.self.invariant.0 in
    let last : c.len-place.result ≡ length ss = omega (arith, c.len-place.ensures, c.reserve.ensures.len) in
    let all = c.in_ok-push.ensures.items ∙ ap (λ (ts : List (Option (Key × Template))). ts ++ Some (c.args.key, c.args.template) ∷ []) c.reserve.ensures.items in
    before_push _ _ _ ss _ _ (c.args.key, c.args.template) c.note.ensures last all c.make_room.ensures.steps room.steps_back
    ∙ ap (λ (v : SlotsView). v.before) c.self.view_is

pub returns-clause-ok : goal.returns-clause-ok
returns-clause-ok c =
    let ss = c.self.inside.slots.items in
    let key : Key = c.args.key in
    let known = ap (λ (v : SlotsView). v.known) c.self.view_is in
    let place : place_of key ss ≡ None = placed key ss (ap (lookup (same_key key)) known ∙ c.requires) in
    let all = c.in_ok-push.ensures.items ∙ ap (λ (ts : List (Option (Key × Template))). ts ++ Some (key, c.args.template) ∷ []) c.reserve.ensures.items in
    ap (λ ts. entries_of (filled ts)) all ∙ ap entries_of (filled_push key c.args.template ss place)
    ∙ templates-insert (filled ss) key c.args.template
    ∙ ap (λ (es : List (Key × Template)). define key (template_of c.args.template) (entries_of es)) known

pub overflow_add-self : goal.overflow_add-self
overflow_add-self c = omega (arith, c.self.invariant.0.slotted.counted, filled_few c.self.inside.slots.items, c.self.inside.slots.small)

pub invariant_of-self : goal.invariant_of-self
invariant_of-self c = grind (arith, common_steps)

pub returns-in_err-make_room-clause-ok : goal.returns-in_err-make_room-clause-ok
returns-in_err-make_room-clause-ok c = grind (arith, common_steps)

pub returns-in_err-make_room-clause-err : goal.returns-in_err-make_room-clause-err
returns-in_err-make_room-clause-err c = grind (arith, common_steps)

pub returns-in_err-make_room-clause-before : goal.returns-in_err-make_room-clause-before
returns-in_err-make_room-clause-before c = grind (arith, common_steps)

pub invariant_of-self-in_err-reserve : goal.invariant_of-self-in_err-reserve
invariant_of-self-in_err-reserve c = grind (arith, common_steps)

pub returns-in_err-reserve-clause-ok : goal.returns-in_err-reserve-clause-ok
returns-in_err-reserve-clause-ok c = grind (arith, common_steps)

pub returns-in_err-reserve-clause-err : goal.returns-in_err-reserve-clause-err
returns-in_err-reserve-clause-err c = grind (arith, common_steps)

pub returns-in_err-reserve-clause-before : goal.returns-in_err-reserve-clause-before
returns-in_err-reserve-clause-before c = grind (arith, common_steps)

pub invariant_of-self-in_err-list : goal.invariant_of-self-in_err-list
invariant_of-self-in_err-list c =
    let ss = c.self.inside.slots.items in (
      kept_as ss _ _ _ _ _ c.reserve.ensures.items refl (kept_as ss ss _ _ _ _ refl c.make_room.ensures.steps c.self.invariant.0),
      covered_as ss _ _ _ _ c.reserve.ensures.items c.make_room.ensures.steps (covered_ahead ss _ _ _ c.list.ensures.ahead c.list.ensures.among c.self.invariant.1),
    )

pub invariant_of-self-in_err-enter_place : goal.invariant_of-self-in_err-enter_place
invariant_of-self-in_err-enter_place c =
    let ss = c.self.inside.slots.items in
    let room = kept_as ss ss _ _ _ _ refl c.make_room.ensures.steps c.self.invariant.0 in (
      kept_as ss _ _ _ _ _ c.reserve.ensures.items refl (kept_same ss _ _ _ _ c.in_err-enter_place.ensures.err room),
      covered_as ss _ _ _ _ c.reserve.ensures.items c.make_room.ensures.steps (covered_ahead ss _ _ _ c.list.ensures.ahead c.list.ensures.among c.self.invariant.1),
    )

pub returns-in_err-enter_place-clause-ok : goal.returns-in_err-enter_place-clause-ok
returns-in_err-enter_place-clause-ok c = grind (arith, common_steps)

pub returns-in_err-enter_place-clause-err : goal.returns-in_err-enter_place-clause-err
returns-in_err-enter_place-clause-err c = grind (arith, common_steps)

pub returns-in_err-enter_place-clause-before : goal.returns-in_err-enter_place-clause-before
returns-in_err-enter_place-clause-before c = grind (arith, common_steps)

pub invariant_of-self-in_err-push : goal.invariant_of-self-in_err-push
invariant_of-self-in_err-push c = grind (arith, common_steps)

pub returns-in_err-push-clause-ok : goal.returns-in_err-push-clause-ok
returns-in_err-push-clause-ok c = grind (arith, common_steps)

pub returns-in_err-push-clause-err : goal.returns-in_err-push-clause-err
returns-in_err-push-clause-err c = grind (arith, common_steps)

pub returns-in_err-push-clause-before : goal.returns-in_err-push-clause-before
returns-in_err-push-clause-before c = grind (arith, common_steps)

pub returns-clause-err : goal.returns-clause-err
returns-clause-err c = grind (arith, common_steps)
