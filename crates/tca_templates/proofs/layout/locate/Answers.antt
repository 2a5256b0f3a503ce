use Rattle.std.proofs.lemmas.Grind.{common_steps}
use Rattle.std.proofs.Common.{◌≡◌, ◌<◌, ◌∷◌, [], ◌+◌, ℕ, sym, ap, ◌∙◌, arith, get_or, drop, map, length}
use Rattle.std.specs.Prelude.{Some, option_map}
use Rattle.std.proofs.lemmas.List.{length-drop}
use Rattle.tca_templates.specs.declared.template.FieldSpec.{FieldSpec}
use Rattle.tca_templates.specs.Records.{field_at}
use Rattle.tca_templates.proofs.Fields.{blank, field_of, field_holds, fields_step, fields_stop, fields_all}
use Rattle.tca_templates.proofs.Records.{size_alone}
use Rattle.tca_templates.proofs.LayoutSteps.{found_more, found_end}
use Rattle.tca_templates.proofs.SteppedFields.{field_in, field_of_step, length_fields, step_there, spots_first, size_first}
use Rattle.tca_templates.proofs.layout.locate.Goals as goal

pub loop-step-init : goal.loop-step-init
loop-step-init c = rw c.none.ensures (record {
  spots = spots_first c.args.choice.now c.args.specs.now c.args.steps.now c.args.octets.now c.requires;
  whole = size_first c.args.choice.now c.args.specs.now c.args.steps.now c.args.octets.now c.requires;
  all = omega arith;
})

pub bounds-specs-step : goal.bounds-specs-step
bounds-specs-step c = step_there c.args.choice.now c.args.specs.now c.args.steps.now c.loop-step.step-index c.requires c.loop-step-test.true

pub loop-step-preserved : goal.loop-step-preserved
loop-step-preserved c =
    let rest = c.loop-step.rest.now in
    let i = c.loop-step.step-index in
    let specs = map (field_in c.args.specs.now) c.args.steps.now in
    let lt : i < length specs = omega (arith, length_fields c.args.specs.now c.args.steps.now, c.loop-step-test.true) in
    let spec = get_or specs i blank in
    let same = field_of_step c.args.specs.now c.args.steps.now i c.loop-step-test.true in
    let x : ℕ × ℕ = (c.in-Some.skip, c.in-Some.size) in
    let e : field_at spec.length rest ≡ Some x = ap (λ (s : FieldSpec). field_at s.length rest) same ∙ sym c.measure.ensures ∙ c.in-Some.is in
    let step = fields_step [] c.loop-step.used specs i rest x lt e in
    let more = found_more c.loop-step.spots c.args.choice.now specs i c.loop-step.used rest x lt e in
    record {
      spots = rw (c.split_at.ensures.back, c.add_field.ensures, ← same) (more ∙ c.loop-step.invariant.spots);
      whole = rw c.split_at.ensures.back (
          sym (size_alone (field_of spec x rest ∷ []) (c.loop-step.used + (x.0 + x.1)) (drop (i + 1) specs) (drop (x.0 + x.1) rest))
          ∙ ap (option_map (λ y. y.1)) (sym step) ∙ c.loop-step.invariant.whole);
      all = rw c.split_at.ensures.back (omega (arith, (field_holds spec rest x e).0, length-drop (x.0 + x.1) rest, c.loop-step.invariant.all));
    }

pub returns-in_default-clause-whole : goal.returns-in_default-clause-whole
returns-in_default-clause-whole c =
    let specs = map (field_in c.args.specs.now) c.args.steps.now in
    let i = c.loop-step.step-index in
    let lt : i < length specs = omega (arith, length_fields c.args.specs.now c.args.steps.now, c.loop-step-test.true) in
    let cut = ap (λ (s : FieldSpec). field_at s.length c.loop-step.rest.now) (field_of_step c.args.specs.now c.args.steps.now i c.loop-step-test.true) ∙ sym c.in_default.ensures in
    ap (option_map (λ y. y.1)) (sym (fields_stop [] c.loop-step.used specs i c.loop-step.rest.now lt cut))
    ∙ c.loop-step.invariant.whole

pub returns-clause-whole : goal.returns-clause-whole
returns-clause-whole c =
    let specs = map (field_in c.args.specs.now) c.args.steps.now in
    ap (option_map (λ y. y.1)) (sym (fields_all [] c.loop-step.used specs c.loop-step.step-index c.loop-step.rest.now (omega (arith, length_fields c.args.specs.now c.args.steps.now, c.loop-step-test.false))))
    ∙ c.loop-step.invariant.whole

pub returns-clause-spots : goal.returns-clause-spots
returns-clause-spots c =
    let specs = map (field_in c.args.specs.now) c.args.steps.now in
    sym (found_end c.loop-step.spots c.args.choice.now specs c.loop-step.step-index c.loop-step.used c.loop-step.rest.now
    (omega (arith, length_fields c.args.specs.now c.args.steps.now, c.loop-step-test.false))) ∙ c.loop-step.invariant.spots

pub returns-in_default-clause-spots : goal.returns-in_default-clause-spots
returns-in_default-clause-spots c = grind (arith, common_steps)
