use Rattle.std.proofs.Common.{◌≡◌, ap, sym, arith, ◌∙◌}
use Rattle.std.specs.Prelude.{Some, None}
use Rattle.std.specs.Option.{option_map}
use Rattle.std.proofs.lemmas.Option.{get_or_from_slice_get}
use Rattle.tca_templates.specs.declared.template.Template.{Template}
use Rattle.tca_templates.specs.Templates.{Key}
use Rattle.tca_templates.specs.Fields.{template_of}
use Rattle.tca_templates.specs.inside.Slotted.{place_of, filled}
use Rattle.tca_templates.proofs.Stored.{templates-known}
use Rattle.tca_templates.proofs.SlotLaws.{stands, unknown}
use Rattle.tca_templates.proofs.slots.Slots.find.Goals as goal

pub returns-in_err-place : goal.returns-in_err-place
returns-in_err-place c =
    let key : Key = (c.args.domain, c.args.id) in
    let none = unknown key c.self.inside.slots.items (sym (c.in_err-place.ensures ∙ c.self.invariant.0.slotted.found key)) in
    rw (c.from_residual.ensures, ← c.self.view_is) (sym (templates-known (filled c.self.inside.slots.items) key ∙ ap (option_map template_of) none))

pub index-requires : goal.index-requires
index-requires c =
    let key : Key = (c.args.domain, c.args.id) in
    let place : place_of key c.self.inside.slots.items ≡ Some c.in_ok-place.place = sym (c.in_ok-place.ensures ∙ c.self.invariant.0.slotted.found key) in
    let s = stands key c.self.inside.slots.items c.in_ok-place.place place in
    omega (arith, s.within)

pub returns-in-Some : goal.returns-in-Some
returns-in-Some c =
    let key : Key = (c.args.domain, c.args.id) in
    let place : place_of key c.self.inside.slots.items ≡ Some c.in_ok-place.place = sym (c.in_ok-place.ensures ∙ c.self.invariant.0.slotted.found key) in
    let s = stands key c.self.inside.slots.items c.in_ok-place.place place in
    let found : Key × Template = (c.in-Some.field-0-0, c.in-Some.template) in
    let there : Some found ≡ Some s.one = sym c.in-Some.is ∙ c.index.ensures ∙ get_or_from_slice_get c.self.inside.slots.items c.in_ok-place.place (Some s.one) c.index.result.now s.there in
    let same : found ≡ s.one = cc in
    rw (← c.self.view_is) (ap (λ (z : Key × Template). Some (template_of z.1)) same
    ∙ sym (templates-known (filled c.self.inside.slots.items) key ∙ ap (option_map template_of) s.known))

pub returns-in-None : goal.returns-in-None
returns-in-None c =
    let key : Key = (c.args.domain, c.args.id) in
    let place : place_of key c.self.inside.slots.items ≡ Some c.in_ok-place.place = sym (c.in_ok-place.ensures ∙ c.self.invariant.0.slotted.found key) in
    let s = stands key c.self.inside.slots.items c.in_ok-place.place place in
    let there : None ≡ Some s.one = sym c.in-None.is ∙ c.index.ensures ∙ get_or_from_slice_get c.self.inside.slots.items c.in_ok-place.place (Some s.one) c.index.result.now s.there in
    absurd cc
