use Rattle.std.proofs.Common.{◌≡◌, ◌<◌, inl, inr, ℕ, List, true, false, subst, length, refl, ap, sym, arith, ◌∙◌, add-one}
use Rattle.std.specs.Prelude.{Option, Some, None, slice_get}
use mathlib.Core.Bool.{beq}
use Rattle.std.proofs.lemmas.Option.{slice_get_read, slice_get_within}
use Rattle.tca_templates.specs.declared.template.Template.{Template}
use Rattle.tca_templates.specs.declared.ids.Ids.{Ids}
use Rattle.tca_templates.specs.Templates.{Key, withdraw_all}
use Rattle.tca_templates.specs.Fields.{SlotsView, entries_of}
use Rattle.tca_templates.specs.inside.Slotted.{filled, place_of, Step, before_of, held, IsAhead, IsApart}
use Rattle.tca_templates.proofs.Stored.{stays_there, templates-filter, goes, other_kind}
use Rattle.tca_templates.proofs.SlotLaws.{IsThinned, thinned_same, thinned_all, thinned_out, leads_back, count_out}
use Rattle.tca_templates.proofs.StepLaws.{kept_as, kept_out, held_entered, before_put}
use Rattle.tca_templates.proofs.KeyOrder.{kind_lookup}
use Rattle.tca_templates.proofs.CoverLaws.{covered_put, covered_as, passes, passed_over, steps_still, leaves, stays_out, put_gone, next, some_is, is_beq, isnt_beq}
use Rattle.tca_templates.proofs.slots.Slots.withdraw_all.Goals.{in-Some-place_of_kind+in_ok-make_room, in_default-place_of_kind}
use Rattle.tca_templates.proofs.slots.Slots.withdraw_all.Goals as goal

pub returns-in_default-clause-ok : goal.returns-in_default-clause-ok
returns-in_default-clause-ok c =
    let known = ap (λ (v : SlotsView). v.known) c.self.view_is in
    let test = stays_there c.args.domain c.args.options in
    let old = c.self.inside.slots.items in
    ap entries_of (sym known) ∙ ap entries_of (thinned_all test old old (thinned_same test old) (λ j e here.
    passes c.self.inside.kinds.entries c.args.domain c.args.options e (c.self.invariant.1.slots_in j (Some e) here)
    (λ ahead _. absurd (subst (λ (o : Option Ids). IsAhead o e.0.1) (sym (c.in_default.ensures.value ∙ kind_lookup (c.args.domain, c.args.options) _)) ahead))))
    ∙ templates-filter (filled old) c.args.domain c.args.options
    ∙ ap (λ (es : List (Key × Template)). withdraw_all c.args.domain c.args.options (entries_of es)) known

pub loop-i-init : goal.loop-i-init
loop-i-init c = record {
  slotted = c.self.invariant.0;
  covered = c.self.invariant.1;
  before = refl;
  thinned = thinned_same (stays_there c.args.domain c.args.options) c.self.inside.slots.items;
  gone = λ n id le lt here. absurd (omega (arith, le, lt));
}

pub place_of_kind-requires-clause-found : goal.place_of_kind-requires-clause-found
place_of_kind-requires-clause-found c =
    subst (λ (ss : List (Option (Key × Template))). (k : Key) → held c.loop-i.self-inside.1.1.0.entries k ≡ place_of k ss) (sym c.deref.ensures.value) c.loop-i.invariant.slotted.slotted.found

pub place_of_kind-requires-clause-apart : goal.place_of_kind-requires-clause-apart
place_of_kind-requires-clause-apart c = subst (λ (ss : List (Option (Key × Template))). IsApart ss) (sym c.deref.ensures.value) c.loop-i.invariant.slotted.slotted.apart

pub invariant_of-self : goal.invariant_of-self
invariant_of-self c = (
  kept_as _ _ _ _ _ _ refl c.make_room.ensures.steps c.loop-i.invariant.slotted,
  covered_as _ _ _ _ _ refl c.make_room.ensures.steps c.loop-i.invariant.covered,
)

pub set_place-requires : goal.set_place-requires
set_place-requires c =
    let xs = c.loop-i.self-inside.1.0.items in
    let p = c.in-Some-place_of_kind.found in
    let some = c.in-Some-place_of_kind.ensures.some in
    let key : Key = (c.args.domain, c.index.result.now) in
    let one : Key × Template = (key, some.0) in
    let there : slice_get xs p ≡ Some (Some one) = ap (λ (ss : List (Option (Key × Template))). slice_get ss p) (sym c.deref.ensures.value) ∙ some.1 in
    held_entered c.loop-i.self-inside.1.1.0.entries key p (c.loop-i.invariant.slotted.slotted.found key ∙ leads_back xs p one c.loop-i.invariant.slotted.slotted.apart there)

pub overflow_sub-self : goal.overflow_sub-self
overflow_sub-self c =
    let xs = c.loop-i.self-inside.1.0.items in
    let p = c.in-Some-place_of_kind.found in
    let some = c.in-Some-place_of_kind.ensures.some in
    let key : Key = (c.args.domain, c.index.result.now) in
    let one : Key × Template = (key, some.0) in
    let there : slice_get xs p ≡ Some (Some one) = ap (λ (ss : List (Option (Key × Template))). slice_get ss p) (sym c.deref.ensures.value) ∙ some.1 in
    omega (arith, c.loop-i.invariant.slotted.slotted.counted, count_out key xs p (leads_back xs p one c.loop-i.invariant.slotted.slotted.apart there))

pub returns-in_err-make_room-clause-before : goal.returns-in_err-make_room-clause-before
returns-in_err-make_room-clause-before c =
    ap (λ (o : Option (List (Step Template))). before_of o c.loop-i.self-inside.1.0.items) c.make_room.ensures.steps
    ∙ c.loop-i.invariant.before ∙ ap (λ (v : SlotsView). v.before) c.self.view_is

pub put-requires-clause-place : goal.put-requires-clause-place
put-requires-clause-place c =
    let xs = c.loop-i.self-inside.1.0.items in
    let there = c.in-Some-place_of_kind.ensures.some.1 in
    slice_get_within xs c.in-Some-place_of_kind.found _ (ap (λ (ss : List (Option (Key × Template))). slice_get ss c.in-Some-place_of_kind.found) (sym c.deref.ensures.value) ∙ there)

pub loop-i-preserved : goal.loop-i-preserved
loop-i-preserved c =
    let test = stays_there c.args.domain c.args.options in
    let xs = c.loop-i.self-inside.1.0.items in
    let old = c.self.inside.slots.items in
    let ids = c.in-Some.ids.now.all.items in
    let i = c.loop-i.i in
    let id = c.index.result.now in
    let key : Key = (c.args.domain, id) in
    let read : slice_get ids i ≡ Some id = slice_get_read ids (length ids) i id refl (omega (arith, c.loop-i-test.true, c.len-i-end.ensures)) c.index.ensures in
    elim c.match-place_of_kind.branch [
      | in-Some-place_of_kind+in_ok-make_room w ↦
          let p = w.in-Some-place_of_kind.found in
          let some = w.in-Some-place_of_kind.ensures.some in
          let one : Key × Template = (key, some.0) in
          let there : slice_get xs p ≡ Some (Some one) = ap (λ (ss : List (Option (Key × Template))). slice_get ss p) (sym c.deref.ensures.value) ∙ some.1 in
          let lt : p < length xs = slice_get_within xs p (Some one) there in
          let place : place_of key xs ≡ Some p = leads_back xs p one c.loop-i.invariant.slotted.slotted.apart there in
          let room = kept_as xs xs _ _ _ _ refl w.make_room.ensures.steps c.loop-i.invariant.slotted in
          let out : test one ≡ false = goes c.args.domain c.args.domain (beq some.0.options c.args.options) refl (is_beq some.0.options c.args.options some.2) in
          rw (w.self-inside-is, add-one) (record {
            slotted = kept_as _ _ _ _ _ _ w.put.ensures.slots w.put.ensures.steps
                (kept_out key xs _ _ _ _ _ p room place w.set_place.ensures.held w.set_place.ensures.entered w.set_place.ensures.as_many
                (omega (arith, c.loop-i.invariant.slotted.slotted.counted, count_out key xs p place)));
            covered = covered_put xs _ _ _ _ _ p None w.put.ensures.slots w.put.ensures.steps w.make_room.ensures.steps lt c.loop-i.invariant.covered tt;
            before = before_put _ _ _ xs _ p None w.put.ensures.steps w.put.ensures.slots w.make_room.ensures.steps ∙ c.loop-i.invariant.before;
            thinned = subst (λ (ss : List (Option (Key × Template))). IsThinned test old ss) (sym w.put.ensures.slots) (thinned_out test old xs p one c.loop-i.invariant.thinned there out);
            gone = λ n m le less listed j t here.
                let stood = put_gone xs _ p j ((c.args.domain, m), t) w.put.ensures.slots here in
                elim (next n i less) [
                  | inl front ↦ c.loop-i.invariant.gone n m le front listed j t stood
                  | inr at ↦
                      let same : m ≡ id = some_is m id (sym listed ∙ ap (slice_get ids) at ∙ read) in
                      let two : Key × Template = ((c.args.domain, m), t) in
                      let to : place_of two.0 xs ≡ Some j = leads_back xs j two c.loop-i.invariant.slotted.slotted.apart stood in
                      let with_id : ℕ → Key = λ k. (c.args.domain, k) in
                      let at_p : j ≡ p = some_is j p (sym to ∙ ap (λ (k : ℕ). place_of (with_id k) xs) same ∙ place) in
                      absurd (stays_out xs _ p j two w.put.ensures.slots lt here at_p)
                ];
          })
      | in_default-place_of_kind w ↦
          rw (w.self-inside-is, add-one) (record {
            slotted = c.loop-i.invariant.slotted;
            covered = c.loop-i.invariant.covered;
            before = c.loop-i.invariant.before;
            thinned = c.loop-i.invariant.thinned;
            gone = λ n m le less listed j t here. elim (next n i less) [
              | inl front ↦ c.loop-i.invariant.gone n m le front listed j t here
              | inr at ↦
                  let same : m ≡ id = some_is m id (sym listed ∙ ap (slice_get ids) at ∙ read) in
                  let with_id : ℕ → Option (Option (Key × Template)) = λ k. Some (Some ((c.args.domain, k), t)) in
                  let there = ap (λ (ss : List (Option (Key × Template))). slice_get ss j) c.deref.ensures.value ∙ here ∙ ap with_id same in
                  other_kind c.args.domain c.args.domain (beq t.options c.args.options) (isnt_beq t.options c.args.options (c.place_of_kind.ensures.none w.in_default-place_of_kind.is j t there))
            ];
          })
    ]

pub invariant_of-self-2 : goal.invariant_of-self-2
invariant_of-self-2 c =
    let ss = c.loop-i.self-inside.1.0.items in
    let gone : (j : ℕ) (e : Key × Template) → slice_get ss j ≡ Some (Some e) → stays_there c.args.domain c.args.options e ≡ true = λ j e here.
    passes c.self.inside.kinds.entries c.args.domain c.args.options e (c.loop-i.invariant.covered.slots_in j (Some e) here) (λ ahead same.
    let found = subst (λ (o : Option Ids). IsAhead o e.0.1) (sym (c.in-Some.ensures.value ∙ kind_lookup (c.args.domain, c.args.options) _)) ahead in
    leaves c.args.domain c.args.options ss e j same here (c.loop-i.invariant.gone found.0 e.0.1 found.1 (omega (arith, c.loop-i-test.false, c.len-i-end.ensures, slice_get_within _ found.0 _ found.2)) found.2)) in (
      c.loop-i.invariant.slotted,
      record {
        slots_in = passed_over ss _ _ c.args.domain c.args.options c.loop-i.invariant.covered.slots_in gone c.pass_over.ensures.others;
        steps_in = steps_still _ _ c.pass_over.ensures.among _ c.loop-i.invariant.covered.steps_in;
      },
    )

pub returns-clause-ok : goal.returns-clause-ok
returns-clause-ok c =
    let known = ap (λ (v : SlotsView). v.known) c.self.view_is in
    let test = stays_there c.args.domain c.args.options in
    let old = c.self.inside.slots.items in
    let ss = c.loop-i.self-inside.1.0.items in
    ap entries_of (thinned_all test old ss c.loop-i.invariant.thinned (λ j e here.
    passes c.self.inside.kinds.entries c.args.domain c.args.options e (c.loop-i.invariant.covered.slots_in j (Some e) here) (λ ahead same.
    let found = subst (λ (o : Option Ids). IsAhead o e.0.1) (sym (c.in-Some.ensures.value ∙ kind_lookup (c.args.domain, c.args.options) _)) ahead in
    leaves c.args.domain c.args.options ss e j same here (c.loop-i.invariant.gone found.0 e.0.1 found.1 (omega (arith, c.loop-i-test.false, c.len-i-end.ensures, slice_get_within _ found.0 _ found.2)) found.2))))
    ∙ templates-filter (filled old) c.args.domain c.args.options
    ∙ ap (λ (es : List (Key × Template)). withdraw_all c.args.domain c.args.options (entries_of es)) known

pub returns-clause-before : goal.returns-clause-before
returns-clause-before c = c.loop-i.invariant.before ∙ ap (λ (v : SlotsView). v.before) c.self.view_is
