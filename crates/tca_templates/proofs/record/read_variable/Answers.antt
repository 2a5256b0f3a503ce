use Rattle.std.proofs.lemmas.Grind.{common_steps}
use Rattle.std.proofs.Common.{[], ◌<◌, ◌≤◌, List, refl, sym, ap, ◌∙◌, arith, length}
use Rattle.std.specs.Prelude.{option_map}
use Rattle.std.proofs.lemmas.List.{length-drop}
use Rattle.std.proofs.lemmas.Result.{err_from_is_err_and}
use Rattle.tca_templates.specs.declared.template.FieldSpec.{FieldSpec}
use Rattle.tca_templates.specs.Templates.{shortest_of}
use Rattle.tca_templates.specs.Records.{fields_on}
use Rattle.tca_templates.specs.inside.Layouts.{spots_of, spot_in}
use Rattle.tca_templates.specs.Fields.{template_of}
use Rattle.tca_templates.proofs.Fields.{fields_holds}
use Rattle.tca_templates.proofs.Records.{data_ends, data_bad}
use Rattle.tca_templates.proofs.LayoutLaws.{found_located, size_located, none_located}
use Rattle.tca_templates.proofs.TakingSteps.{walked_first, walked_more, walked_wants, walked_full, walked_cut}
use Rattle.tca_templates.proofs.record.read_variable.Goals as goal

pub loop-rest-init : goal.loop-rest-init
loop-rest-init g c = record {
  so_far = λ start records taken. walked_first g.T.TakesRecords.took c.args.source (template_of c.args.template.now) start c.args.taker.now c.args.count c.args.at c.args.octets.now records taken;
  few = omega arith;
  place = refl;
  shortest = refl;
}

pub locate-requires : goal.locate-requires
locate-requires g c =
    let t = c.args.template.now in
    rw (c.deref.ensures.value, c.deref-in-loop-rest.ensures.value) (t.gone_over c.requires.variable)

pub returns-in_default-clause-exact : goal.returns-in_default-clause-exact
returns-in_default-clause-exact g c = λ start records taken other.
    let t = c.args.template.now in
    let rest = c.loop-rest.rest.now in
    let le : shortest_of t.specs.items ≤ length rest = omega (arith, c.loop-rest-test.true, t.right) in
    let some : 0 < shortest_of t.specs.items = omega (arith, t.some, t.right) in
    let w = c.loop-rest.invariant.so_far start records taken in
    let none = none_located t.specs.items rest (c.in_default.ensures.whole ∙ ap (λ (ss : List FieldSpec). option_map (λ x. x.1) (fields_on [] 0 ss rest)) c.deref.ensures.value) in
    sym w.same ∙ data_bad c.args.source (template_of t) some w.all c.loop-rest.at rest le none

pub returns-in_default-clause-wanted : goal.returns-in_default-clause-wanted
returns-in_default-clause-wanted g c = λ memory. absurd cc

pub invariant_of-record : goal.invariant_of-record
invariant_of-record g c =
    let t = c.args.template.now in
    let rest = c.loop-rest.rest.now in (
      found_located t.choice t.specs.items rest c.in-Some.size c.locate.new.spots t.chosen
          (c.in-Some.ensures.whole ∙ ap (λ (ss : List FieldSpec). option_map (λ x. x.1) (fields_on [] 0 ss rest)) c.deref.ensures.value)
          (c.in-Some.ensures.spots ∙ ap (λ (ss : List FieldSpec). spots_of t.choice (λ e. spot_in e 0 ss rest)) c.deref.ensures.value),
      tt,
    )

pub overflow_cast-at : goal.overflow_cast-at
overflow_cast-at g c =
    let t = c.args.template.now in
    let rest = c.loop-rest.rest.now in
    let read = size_located t.specs.items rest c.in-Some.size (c.in-Some.ensures.whole ∙ ap (λ (ss : List FieldSpec). option_map (λ x. x.1) (fields_on [] 0 ss rest)) c.deref.ensures.value) in
    omega (arith, (fields_holds [] 0 t.specs.items rest _ read).within, c.loop-rest.invariant.place, c.requires.place)

pub overflow_add-at : goal.overflow_add-at
overflow_add-at g c =
    let t = c.args.template.now in
    let rest = c.loop-rest.rest.now in
    let read = size_located t.specs.items rest c.in-Some.size (c.in-Some.ensures.whole ∙ ap (λ (ss : List FieldSpec). option_map (λ x. x.1) (fields_on [] 0 ss rest)) c.deref.ensures.value) in
    omega (arith, (fields_holds [] 0 t.specs.items rest _ read).within, c.loop-rest.invariant.place, c.requires.place)

pub split_at-requires : goal.split_at-requires
split_at-requires g c =
    let t = c.args.template.now in
    let rest = c.loop-rest.rest.now in
    let read = size_located t.specs.items rest c.in-Some.size (c.in-Some.ensures.whole ∙ ap (λ (ss : List FieldSpec). option_map (λ x. x.1) (fields_on [] 0 ss rest)) c.deref.ensures.value) in
    omega (arith, (fields_holds [] 0 t.specs.items rest _ read).within)

pub loop-rest-smaller : goal.loop-rest-smaller
loop-rest-smaller g c =
    let t = c.args.template.now in
    let rest = c.loop-rest.rest.now in
    let read = size_located t.specs.items rest c.in-Some.size (c.in-Some.ensures.whole ∙ ap (λ (ss : List FieldSpec). option_map (λ x. x.1) (fields_on [] 0 ss rest)) c.deref.ensures.value) in
    let holds = fields_holds [] 0 t.specs.items rest _ read in
    rw c.split_at.ensures.back (omega (arith, length-drop c.in-Some.size rest, holds.least, holds.within, t.some, t.right))

pub loop-rest-preserved : goal.loop-rest-preserved
loop-rest-preserved g c =
    let t = c.args.template.now in
    let rest = c.loop-rest.rest.now in
    let n = c.in-Some.size in
    let le : shortest_of t.specs.items ≤ length rest = omega (arith, c.loop-rest-test.true, t.right) in
    let some : 0 < shortest_of t.specs.items = omega (arith, t.some, t.right) in
    let read = size_located t.specs.items rest n (c.in-Some.ensures.whole ∙ ap (λ (ss : List FieldSpec). option_map (λ x. x.1) (fields_on [] 0 ss rest)) c.deref.ensures.value) in
    let holds = fields_holds [] 0 t.specs.items rest _ read in
    record {
      so_far = λ start records taken.
          let w = c.loop-rest.invariant.so_far start records taken in
          rw c.split_at.ensures.back (walked_more g.T.TakesRecords.took c.args.source (template_of t) start c.loop-rest.taker c.take.new.self c.loop-rest.count c.loop-rest.at n rest _ _ _ some w le read
          (c.in_ok-take.ensures.ok start w.all w.holds));
      few = rw c.split_at.ensures.back (omega (arith, length-drop n rest, c.loop-rest.invariant.few, holds.least, holds.within, some));
      place = rw c.split_at.ensures.back (omega (arith, length-drop n rest, c.loop-rest.invariant.place, holds.within));
      shortest = refl;
    }

pub returns-clause-exact : goal.returns-clause-exact
returns-clause-exact g c = λ start records taken.
    let t = c.args.template.now in
    let some : 0 < shortest_of t.specs.items = omega (arith, t.some, t.right) in
    let w = c.loop-rest.invariant.so_far start records taken in
    let less : length c.loop-rest.rest.now < shortest_of t.specs.items = omega (arith, c.loop-rest-test.false, t.right) in
    (w.all, sym w.same ∙ data_ends c.args.source (template_of t) some w.all c.loop-rest.at c.loop-rest.rest.now less, (w.holds, w.counted))

pub returns-in_err-take-clause-wanted : goal.returns-in_err-take-clause-wanted
returns-in_err-take-clause-wanted g c =
    let t = c.args.template.now in
    let rest = c.loop-rest.rest.now in
    let le : shortest_of t.specs.items ≤ length rest = omega (arith, c.loop-rest-test.true, t.right) in
    let read = size_located t.specs.items rest c.in-Some.size (c.in-Some.ensures.whole ∙ ap (λ (ss : List FieldSpec). option_map (λ x. x.1) (fields_on [] 0 ss rest)) c.deref.ensures.value) in
    λ memory start records taken.
    walked_wants g.T.TakesRecords.took c.args.source (template_of t) start c.loop-rest.taker c.loop-rest.count c.loop-rest.at _ rest _ _ _ (c.loop-rest.invariant.so_far start records taken) le read

pub returns-in_default-clause-held : goal.returns-in_default-clause-held
returns-in_default-clause-held g c = λ start records taken.
    let t = c.args.template.now in
    let rest = c.loop-rest.rest.now in
    let le : shortest_of t.specs.items ≤ length rest = omega (arith, c.loop-rest-test.true, t.right) in
    let none = none_located t.specs.items rest (c.in_default.ensures.whole ∙ ap (λ (ss : List FieldSpec). option_map (λ x. x.1) (fields_on [] 0 ss rest)) c.deref.ensures.value) in
    walked_cut g.T.TakesRecords.took c.args.source (template_of t) start c.loop-rest.taker c.loop-rest.count c.loop-rest.at rest _ _ _ (c.loop-rest.invariant.so_far start records taken) le none

pub returns-in_err-take-clause-held : goal.returns-in_err-take-clause-held
returns-in_err-take-clause-held g c =
    let t = c.args.template.now in
    let rest = c.loop-rest.rest.now in
    let le : shortest_of t.specs.items ≤ length rest = omega (arith, c.loop-rest-test.true, t.right) in
    let read = size_located t.specs.items rest c.in-Some.size (c.in-Some.ensures.whole ∙ ap (λ (ss : List FieldSpec). option_map (λ x. x.1) (fields_on [] 0 ss rest)) c.deref.ensures.value) in
    let p = err_from_is_err_and c.from_residual.result c.from_residual.ensures.1 in
    rw (p.1, p.2) (λ start records taken.
    let w = c.loop-rest.invariant.so_far start records taken in
    walked_full g.T.TakesRecords.took c.args.source (template_of t) start c.loop-rest.taker c.take.new.self c.loop-rest.count c.loop-rest.at _ rest _ _ _ w le read
    (c.in_err-take.ensures.err start w.all w.holds))

pub returns-in_default-clause-few : goal.returns-in_default-clause-few
returns-in_default-clause-few g c = grind (arith, common_steps)

pub returns-in_err-take-clause-exact : goal.returns-in_err-take-clause-exact
returns-in_err-take-clause-exact g c = grind (arith, common_steps)

pub returns-in_err-take-clause-few : goal.returns-in_err-take-clause-few
returns-in_err-take-clause-few g c = grind (arith, common_steps)

pub returns-clause-wanted : goal.returns-clause-wanted
returns-clause-wanted g c = grind (arith, common_steps)

pub returns-clause-few : goal.returns-clause-few
returns-clause-few g c = grind (arith, common_steps)

pub returns-clause-held : goal.returns-clause-held
returns-clause-held g c = grind (arith, common_steps)
