use Rattle.std.proofs.lemmas.Grind.{common_steps}
use Rattle.std.proofs.Common.{◌≡◌, List, refl, ap, sym, ◌∙◌, arith}
use Rattle.std.specs.Prelude.{Some}
use Rattle.std.specs.Map.{lookup}
use Rattle.tca_templates.specs.declared.template.Template.{Template}
use Rattle.tca_templates.specs.Templates.{Key, same_key, define}
use Rattle.tca_templates.specs.Fields.{SlotsView, template_of, entries_of}
use Rattle.tca_templates.specs.inside.Slotted.{place_of, filled}
use Rattle.tca_templates.proofs.Stored.{templates-insert}
use Rattle.tca_templates.proofs.SlotLaws.{stands, filled_put, unknown}
use Rattle.tca_templates.proofs.StepLaws.{kept_as, kept_put, before_put}
use Rattle.tca_templates.proofs.CoverLaws.{covered_put, covered_ahead, covered_as}
use Rattle.tca_templates.proofs.slots.Slots.define.Goals as goal

pub put-requires-clause-place : goal.put-requires-clause-place
put-requires-clause-place c =
    let key : Key = (c.args.domain, c.args.id) in
    let place : place_of key c.self.inside.slots.items ≡ Some c.in-Some.place = sym (c.in-Some.ensures ∙ c.self.invariant.0.slotted.found key) in
    (stands key c.self.inside.slots.items c.in-Some.place place).within

pub invariant_of-self-in-Some : goal.invariant_of-self-in-Some
invariant_of-self-in-Some c =
    let ss = c.self.inside.slots.items in
    let key : Key = (c.args.domain, c.args.id) in
    let place : place_of key ss ≡ Some c.in-Some.place = sym (c.in-Some.ensures ∙ c.self.invariant.0.slotted.found key) in
    let room = kept_as ss ss _ _ _ _ refl c.make_room.ensures.steps c.self.invariant.0 in (
      kept_as _ _ _ _ _ _ c.put.ensures.slots c.put.ensures.steps (kept_put key c.args.template ss _ _ _ c.in-Some.place room place),
      covered_put ss _ _ _ _ _ c.in-Some.place (Some (key, c.args.template)) c.put.ensures.slots c.put.ensures.steps c.make_room.ensures.steps (stands key ss c.in-Some.place place).within
          (covered_ahead ss _ _ _ c.list.ensures.ahead c.list.ensures.among c.self.invariant.1) c.in_ok-list.ensures.ok,
    )

pub returns-in-Some-clause-before : goal.returns-in-Some-clause-before
returns-in-Some-clause-before c =
    before_put _ _ _ c.self.inside.slots.items _ c.in-Some.place (Some ((c.args.domain, c.args.id), c.args.template)) c.put.ensures.steps c.put.ensures.slots c.make_room.ensures.steps
    ∙ ap (λ (v : SlotsView). v.before) (c.self.view_is ∙ c.list_anew.ensures ∙ c.close_up.ensures)

pub returns-in-Some-clause-ok : goal.returns-in-Some-clause-ok
returns-in-Some-clause-ok c =
    let ss = c.self.inside.slots.items in
    let key : Key = (c.args.domain, c.args.id) in
    let place : place_of key ss ≡ Some c.in-Some.place = sym (c.in-Some.ensures ∙ c.self.invariant.0.slotted.found key) in
    let known = ap (λ (v : SlotsView). v.known) (c.self.view_is ∙ c.list_anew.ensures ∙ c.close_up.ensures) in
    ap (λ ts. entries_of (filled ts)) c.put.ensures.slots ∙ ap entries_of (filled_put key c.args.template ss c.in-Some.place place) ∙ templates-insert _ key c.args.template
    ∙ ap (λ (es : List (Key × Template)). define key (template_of c.args.template) (entries_of es)) known

pub push-requires : goal.push-requires
push-requires c =
    let key : Key = (c.args.domain, c.args.id) in
    let known = ap (λ (v : SlotsView). v.known) c.self.view_is in
    ap (lookup (same_key key)) (sym known) ∙ unknown key c.self.inside.slots.items (sym (c.self.invariant.0.slotted.found key) ∙ sym c.in_default.ensures)

pub invariant_of-self : goal.invariant_of-self
invariant_of-self c = (c.self.invariant.0, covered_ahead _ _ _ _ c.list.ensures.ahead c.list.ensures.among c.self.invariant.1)

pub invariant_of-self-in_err-make_room : goal.invariant_of-self-in_err-make_room
invariant_of-self-in_err-make_room c =
    let ss = c.self.inside.slots.items in (
      kept_as ss ss _ _ _ _ refl c.make_room.ensures.steps c.self.invariant.0,
      covered_as ss _ _ _ _ refl c.make_room.ensures.steps (covered_ahead ss _ _ _ c.list.ensures.ahead c.list.ensures.among c.self.invariant.1),
    )

pub returns-in_err-make_room-clause-ok : goal.returns-in_err-make_room-clause-ok
returns-in_err-make_room-clause-ok c = grind (arith, common_steps)

pub returns-in_err-make_room-clause-err : goal.returns-in_err-make_room-clause-err
returns-in_err-make_room-clause-err c = grind (arith, common_steps)

pub returns-in_err-make_room-clause-before : goal.returns-in_err-make_room-clause-before
returns-in_err-make_room-clause-before c = grind (arith, common_steps)

pub returns-in-Some-clause-err : goal.returns-in-Some-clause-err
returns-in-Some-clause-err c = grind (arith, common_steps)

pub returns-clause-ok : goal.returns-clause-ok
returns-clause-ok c = grind (arith, common_steps)

pub returns-clause-err : goal.returns-clause-err
returns-clause-err c = grind (arith, common_steps)

pub returns-clause-before : goal.returns-clause-before
returns-clause-before c = grind (arith, common_steps)
