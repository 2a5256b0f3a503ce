use Rattle.std.proofs.Common.{◌≡◌, List, length, take, refl, ap, ◌∙◌, add-one}
use Rattle.std.specs.Prelude.{Option, Some, None, slice_get}
use Rattle.std.proofs.lemmas.Option.{slice_get_read}
use Rattle.tca_templates.specs.declared.template.Template.{Template}
use Rattle.tca_templates.specs.Templates.{Key}
use Rattle.tca_templates.proofs.SlotLaws.{take_more, take_all}
use Rattle.tca_templates.proofs.CoverLaws.{push_in, listed_ahead}
use Rattle.tca_templates.proofs.slots.listed.Goals.{in-Some+in_ok-list, in_default}
use Rattle.tca_templates.proofs.slots.listed.Goals as goal

pub loop-slot-preserved : goal.loop-slot-preserved
loop-slot-preserved c =
    let ss = c.args.slots.now in
    let i = c.loop-slot.slot-index in
    let xs = c.loop-slot.kinds.entries in
    let read : slice_get ss i ≡ Some c.slot-item.result = slice_get_read ss (length ss) i c.slot-item.result refl c.loop-slot-test.true c.slot-item.is in
    elim c.match-slot.branch [
      | in-Some+in_ok-list w ↦
          let one : Key × Template = (w.in-Some.key, w.in-Some.template) in
          let there : slice_get ss i ≡ Some (Some one) = read ∙ ap (λ s. Some s) w.in-Some.is in
          let ys = w.list.new.kinds.entries in
          rw (w.kinds-is, add-one, take_more ss i (Some one) there)
          (push_in (take i ss) ys (Some one) (λ j s e. listed_ahead xs ys w.list.ensures.ahead s (c.loop-slot.invariant j s e)) w.in_ok-list.ensures.ok)
      | in_default w ↦
          let there : slice_get ss i ≡ Some None = read ∙ ap (λ s. Some s) w.in_default.is in
          rw (w.kinds-is, add-one, take_more ss i None there) (push_in (take i ss) xs None c.loop-slot.invariant tt)
    ]

pub returns : goal.returns
returns c = λ i s e. c.loop-slot.invariant i s (ap (λ (l : List (Option (Key × Template))). slice_get l i) (take_all c.args.slots.now c.loop-slot.slot-index c.loop-slot-test.false) ∙ e)
