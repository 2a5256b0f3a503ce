use Rattle.std.proofs.lemmas.Grind.{common_steps}
use Rattle.std.proofs.Common.{◌≡◌, ◌+◌, ◌++◌, ◌∷◌, [], ℕ, List, true, false, sym, ap, ◌∙◌, arith, drop, map, get_or}
use Rattle.std.specs.Prelude.{Some}
use Rattle.std.specs.Option.{is_some}
use Rattle.std.proofs.lemmas.List.{length-drop, drop-take, map-append}
use Rattle.tca_templates.specs.declared.outcome.FieldValue.{FieldValue}
use Rattle.tca_templates.specs.Records.{field_at, fields_on}
use Rattle.tca_templates.specs.inside.Layouts.{fields_or}
use Rattle.tca_templates.specs.Outcomes.{value_view}
use Rattle.tca_templates.proofs.Fields.{blank, field_of, fields_step, fields_stop, fields_all}
use Rattle.tca_templates.proofs.record.copied_fields.Goals as goal

pub loop-spec-init : goal.loop-spec-init
loop-spec-init c = record {
  so_far = (0, ap (λ (l : List FieldValue). fields_on (map value_view l) 0 c.args.specs.now c.args.octets.now) c.in_ok-copy.ensures.items);
  within = omega arith;
}

pub unreachable-requires : goal.unreachable-requires
unreachable-requires c =
    let s = c.loop-spec.invariant.so_far in
    let none = sym s.1 ∙ fields_stop (map value_view c.loop-spec.copy.items) s.0 c.args.specs.now c.loop-spec.spec-index c.loop-spec.rest.now c.loop-spec-test.true (sym c.in_default.ensures) in
    let bad : false ≡ true = ap is_some (sym none) ∙ c.requires in
    absurd cc

pub loop-spec-preserved : goal.loop-spec-preserved
loop-spec-preserved c =
    let rest = c.loop-spec.rest.now in
    let spec = get_or c.args.specs.now c.loop-spec.spec-index blank in
    let x : ℕ × ℕ = (c.in-Some.skip, c.in-Some.size) in
    let e : field_at spec.length rest ≡ Some x = sym c.measure.ensures ∙ c.in-Some.is in
    let s = c.loop-spec.invariant.so_far in
    let step = fields_step (map value_view c.loop-spec.copy.items) s.0 c.args.specs.now c.loop-spec.spec-index rest x c.loop-spec-test.true e in
    let value = c.in_ok-value.ensures ∙ c.split_at-in-loop-spec.ensures.back ∙ ap (drop c.in-Some.skip) c.split_at.ensures.front ∙ drop-take c.in-Some.skip c.in-Some.size rest in
    let views : map value_view c.push.new.self.items ≡ map value_view c.loop-spec.copy.items ++ field_of spec x rest ∷ [] =
    ap (map value_view) c.in_ok-push.ensures.items
    ∙ map-append value_view c.loop-spec.copy.items _
    ∙ ap (λ (v : List ℕ). map value_view c.loop-spec.copy.items ++ record { element = spec.element; enterprise = spec.enterprise; value = v } ∷ []) value in
    record {
      so_far = (s.0 + (x.0 + x.1), rw (views, c.split_at.ensures.back) (sym step ∙ s.1));
      within = rw c.split_at.ensures.back (omega (arith, length-drop (x.0 + x.1) rest, c.loop-spec.invariant.within));
    }

pub returns : goal.returns
returns c =
    let s = c.loop-spec.invariant.so_far in
    sym (ap fields_or (sym s.1 ∙ fields_all (map value_view c.loop-spec.copy.items) s.0 c.args.specs.now c.loop-spec.spec-index c.loop-spec.rest.now c.loop-spec-test.false))

pub returns-in_err-copy : goal.returns-in_err-copy
returns-in_err-copy c = grind (arith, common_steps)

pub returns-in_err-value : goal.returns-in_err-value
returns-in_err-value c = grind (arith, common_steps)

pub returns-in_err-push : goal.returns-in_err-push
returns-in_err-push c = grind (arith, common_steps)
