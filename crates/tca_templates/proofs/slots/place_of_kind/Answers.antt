use Rattle.std.proofs.Common.{◌≡◌, length, arith, refl, sym, ap, ◌∙◌}
use Rattle.std.specs.Prelude.{Option, Some, None, slice_get}
use Rattle.std.proofs.lemmas.Option.{slice_get_read}
use Rattle.tca_templates.specs.declared.template.Template.{Template}
use Rattle.tca_templates.specs.Templates.{Key}
use Rattle.tca_templates.specs.inside.Slotted.{place_of}
use Rattle.tca_templates.proofs.SlotLaws.{has_key, stands}
use Rattle.tca_templates.proofs.CoverLaws.{beq_is, unlike, none_there, one_there}
use Rattle.tca_templates.proofs.slots.place_of_kind.Goals as goal

pub returns-in_err-place-clause-none : goal.returns-in_err-place-clause-none
returns-in_err-place-clause-none c none i t here same =
    let key : Key = c.args.key in
    none_there key c.args.slots.now c.requires.apart (sym (c.in_err-place.ensures ∙ c.requires.found key)) i t here

pub returns-in_err-get-clause-none : goal.returns-in_err-get-clause-none
returns-in_err-get-clause-none c none i t here same =
    let ss = c.args.slots.now in
    let key : Key = c.args.key in
    let p = c.in_ok-place.place in
    let place : place_of key ss ≡ Some p = sym (c.in_ok-place.ensures ∙ c.requires.found key) in
    absurd (omega (arith, (stands key ss p place).within, c.in_err-get.ensures.lookup.3))

pub returns-in_err-template-clause-none : goal.returns-in_err-template-clause-none
returns-in_err-template-clause-none c none i t here same =
    let ss = c.args.slots.now in
    let key : Key = c.args.key in
    let p = c.in_ok-place.place in
    let place : place_of key ss ≡ Some p = sym (c.in_ok-place.ensures ∙ c.requires.found key) in
    let s = stands key ss p place in
    let read : slice_get ss p ≡ Some c.in_ok-get.field-0.now = slice_get_read ss (length ss) p c.in_ok-get.field-0.now refl s.within c.in_ok-get.ensures.lookup.1 in
    let bad : Some None ≡ Some (Some s.one) = ap (λ z. Some z) c.in_err-template.ensures.value ∙ sym read ∙ s.there in
    absurd cc

pub returns-then-template-options-clause-some : goal.returns-then-template-options-clause-some
returns-then-template-options-clause-some c =
    let ss = c.args.slots.now in
    let key : Key = c.args.key in
    let p = c.in_ok-place.place in
    let t = c.in_ok-template.field-0.now.1 in
    let place : place_of key ss ≡ Some p = sym (c.in_ok-place.ensures ∙ c.requires.found key) in
    let read : slice_get ss p ≡ Some c.in_ok-get.field-0.now = slice_get_read ss (length ss) p c.in_ok-get.field-0.now refl (stands key ss p place).within c.in_ok-get.ensures.lookup.1 in
    let there = read ∙ ap (λ z. Some z) (sym c.in_ok-template.ensures.value) in
    let with_key : Key → Option (Option (Key × Template)) = λ k. Some (Some (k, t)) in
    (t, there ∙ ap with_key (has_key key ss p c.in_ok-template.field-0.now place there), beq_is t.options c.args.options c.if-template-options.true)

pub returns-else-template-options-clause-none : goal.returns-else-template-options-clause-none
returns-else-template-options-clause-none c none i t here same =
    let ss = c.args.slots.now in
    let key : Key = c.args.key in
    let p = c.in_ok-place.place in
    let place : place_of key ss ≡ Some p = sym (c.in_ok-place.ensures ∙ c.requires.found key) in
    let read : slice_get ss p ≡ Some c.in_ok-get.field-0.now = slice_get_read ss (length ss) p c.in_ok-get.field-0.now refl (stands key ss p place).within c.in_ok-get.ensures.lookup.1 in
    let there = read ∙ ap (λ z. Some z) (sym c.in_ok-template.ensures.value) in
    let is : t ≡ c.in_ok-template.field-0.now.1 = one_there key ss p c.in_ok-template.field-0.now c.requires.apart place there i t here in
    unlike c.in_ok-template.field-0.now.1.options c.args.options c.if-template-options.false (ap (λ (x : Template). x.options) (sym is) ∙ same)
