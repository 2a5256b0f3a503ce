use Rattle.std.proofs.lemmas.Grind.{common_steps}
use Rattle.std.proofs.Common.{◌≡◌, List, refl, ap, sym, ◌∙◌, arith}
use Rattle.std.specs.Prelude.{Some, None}
use Rattle.tca_templates.specs.declared.template.Template.{Template}
use Rattle.tca_templates.specs.Templates.{Key, withdraw}
use Rattle.tca_templates.specs.Fields.{SlotsView, entries_of}
use Rattle.tca_templates.specs.inside.Slotted.{place_of, filled}
use Rattle.tca_templates.proofs.Stored.{templates-remove}
use Rattle.tca_templates.proofs.SlotLaws.{stands, count_out, filled_out, absent_out, unknown}
use Rattle.tca_templates.proofs.StepLaws.{kept_as, kept_out, held_entered, before_put}
use Rattle.tca_templates.proofs.CoverLaws.{covered_put}
use Rattle.tca_templates.proofs.slots.Slots.withdraw.Goals as goal

pub put-requires-clause-place : goal.put-requires-clause-place
put-requires-clause-place c =
    let ss = c.self.inside.slots.items in
    let key : Key = (c.args.domain, c.args.id) in
    let room = kept_as ss ss _ _ _ _ refl c.make_room.ensures.steps c.self.invariant.0 in
    let place : place_of key ss ≡ Some c.in-Some.place = sym (c.in-Some.ensures ∙ room.slotted.found key) in
    (stands key ss c.in-Some.place place).within

pub set_place-requires : goal.set_place-requires
set_place-requires c = held_entered c.self.inside.places.entries (c.args.domain, c.args.id) c.in-Some.place (sym c.in-Some.ensures)

pub overflow_sub-self : goal.overflow_sub-self
overflow_sub-self c =
    let ss = c.self.inside.slots.items in
    let key : Key = (c.args.domain, c.args.id) in
    let place : place_of key ss ≡ Some c.in-Some.place = sym (c.in-Some.ensures ∙ c.self.invariant.0.slotted.found key) in
    omega (arith, c.self.invariant.0.slotted.counted, count_out key ss c.in-Some.place place)

pub invariant_of-self-in-Some : goal.invariant_of-self-in-Some
invariant_of-self-in-Some c =
    let ss = c.self.inside.slots.items in
    let key : Key = (c.args.domain, c.args.id) in
    let room = kept_as ss ss _ _ _ _ refl c.make_room.ensures.steps c.self.invariant.0 in
    let place : place_of key ss ≡ Some c.in-Some.place = sym (c.in-Some.ensures ∙ room.slotted.found key) in (
      kept_as _ _ _ _ _ _ c.put.ensures.slots c.put.ensures.steps
          (kept_out key ss _ _ _ _ _ c.in-Some.place room place c.set_place.ensures.held c.set_place.ensures.entered c.set_place.ensures.as_many (omega (arith, c.self.invariant.0.slotted.counted, count_out key ss c.in-Some.place place))),
      covered_put ss _ _ _ _ _ c.in-Some.place None c.put.ensures.slots c.put.ensures.steps c.make_room.ensures.steps (stands key ss c.in-Some.place place).within c.self.invariant.1 tt,
    )

pub returns-in-Some-clause-before : goal.returns-in-Some-clause-before
returns-in-Some-clause-before c =
    before_put _ _ _ c.self.inside.slots.items _ c.in-Some.place None c.put.ensures.steps c.put.ensures.slots c.make_room.ensures.steps
    ∙ ap (λ (v : SlotsView). v.before) c.self.view_is

pub returns-in-Some-clause-ok : goal.returns-in-Some-clause-ok
returns-in-Some-clause-ok c =
    let ss = c.self.inside.slots.items in
    let key : Key = (c.args.domain, c.args.id) in
    let room = kept_as ss ss _ _ _ _ refl c.make_room.ensures.steps c.self.invariant.0 in
    let place : place_of key ss ≡ Some c.in-Some.place = sym (c.in-Some.ensures ∙ room.slotted.found key) in
    let known = ap (λ (v : SlotsView). v.known) c.self.view_is in
    ap (λ ts. entries_of (filled ts)) c.put.ensures.slots ∙ ap entries_of (filled_out key ss c.in-Some.place place) ∙ templates-remove _ key
    ∙ ap (λ (es : List (Key × Template)). withdraw key (entries_of es)) known

pub returns-in_default-clause-ok : goal.returns-in_default-clause-ok
returns-in_default-clause-ok c =
    let ss = c.self.inside.slots.items in
    let key : Key = (c.args.domain, c.args.id) in
    let room = kept_as ss ss _ _ _ _ refl c.make_room.ensures.steps c.self.invariant.0 in
    let none = unknown key ss (sym (c.in_default.ensures ∙ room.slotted.found key)) in
    let known = ap (λ (v : SlotsView). v.known) c.self.view_is in
    ap entries_of (sym (absent_out key (filled ss) none)) ∙ templates-remove (filled ss) key ∙ ap (λ (es : List (Key × Template)). withdraw key (entries_of es)) known

pub invariant_of-self : goal.invariant_of-self
invariant_of-self c = grind (arith, common_steps)

pub returns-in_err-make_room-clause-ok : goal.returns-in_err-make_room-clause-ok
returns-in_err-make_room-clause-ok c = grind (arith, common_steps)

pub returns-in_err-make_room-clause-before : goal.returns-in_err-make_room-clause-before
returns-in_err-make_room-clause-before c = grind (arith, common_steps)

pub invariant_of-self-in_default : goal.invariant_of-self-in_default
invariant_of-self-in_default c = grind (arith, common_steps)

pub returns-in_default-clause-before : goal.returns-in_default-clause-before
returns-in_default-clause-before c = grind (arith, common_steps)
