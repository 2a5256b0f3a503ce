use Rattle.std.proofs.lemmas.Grind.{common_steps}
use Rattle.std.proofs.Common.{◌≡◌, suc, ◌-◌, ◌+◌, ◌++◌, ◌∷◌, [], List, length, drop, sym, ap, ◌∙◌, arith, append_assoc}
use Rattle.std.specs.Option.{is_some}
use Rattle.tca_templates.specs.declared.template.FieldSpec.{FieldSpec}
use Rattle.tca_templates.specs.Specifiers.{specs_in}
use Rattle.tca_templates.proofs.Specs.{first_there, specs_in_next}
use Rattle.tca_templates.proofs.specifiers.stored.Goals as goal

pub unwrap-size-requires : goal.unwrap-size-requires
unwrap-size-requires c =
    let rest = c.loop.rest.now in
    let n = c.args.definition.count - (c.loop.counter + 1) in
    let left : c.args.definition.count - c.loop.counter ≡ suc n = omega arith in
    ap is_some c.specifier.ensures ∙ first_there n rest (sym (ap (λ m. length (specs_in m rest)) left) ∙ c.loop.invariant.left ∙ left)

pub loop-preserved : goal.loop-preserved
loop-preserved c =
    let rest = c.loop.rest.now in
    let n = c.args.definition.count - (c.loop.counter + 1) in
    let x = c.unwrap-size.result in
    let left : c.args.definition.count - c.loop.counter ≡ suc n = omega arith in
    let next : specs_in (c.args.definition.count - c.loop.counter) rest ≡ x.0 ∷ specs_in n (drop x.1 rest) =
    ap (λ m. specs_in m rest) left ∙ specs_in_next n rest x (sym c.specifier.ensures ∙ c.unwrap-size.ensures) in
    record {
      so_far = rw (c.in_ok-push.ensures.items, c.split_at.ensures.back)
          (append_assoc c.loop.specs.items (x.0 ∷ []) (specs_in n (drop x.1 rest)) ∙ ap (λ (l : List FieldSpec). c.loop.specs.items ++ l) (sym next) ∙ c.loop.invariant.so_far);
      left = rw c.split_at.ensures.back (omega (arith, ap length next, c.loop.invariant.left));
    }

pub returns-in_err-specs-clause-options : goal.returns-in_err-specs-clause-options
returns-in_err-specs-clause-options c = grind (arith, common_steps)

pub returns-in_err-specs-clause-specs : goal.returns-in_err-specs-clause-specs
returns-in_err-specs-clause-specs c = grind (arith, common_steps)

pub returns-in_err-push-clause-options : goal.returns-in_err-push-clause-options
returns-in_err-push-clause-options c = grind (arith, common_steps)

pub returns-in_err-push-clause-specs : goal.returns-in_err-push-clause-specs
returns-in_err-push-clause-specs c = grind (arith, common_steps)

pub invariant_of-result : goal.invariant_of-result
invariant_of-result c = grind (arith, common_steps)

pub returns-clause-options : goal.returns-clause-options
returns-clause-options c = grind (arith, common_steps)

pub returns-clause-specs : goal.returns-clause-specs
returns-clause-specs c = grind (arith, common_steps)
