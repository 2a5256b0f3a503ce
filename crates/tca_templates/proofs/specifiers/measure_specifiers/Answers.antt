use Rattle.std.proofs.Common.{◌≡◌, ℕ, suc, ◌-◌, ◌+◌, ◌++◌, ◌∷◌, [], length, Some, sym, ap, ◌∙◌, arith}
use Rattle.std.proofs.lemmas.List.{length-drop}
use Rattle.tca_templates.specs.declared.template.FieldSpec.{FieldSpec}
use Rattle.tca_templates.specs.declared.fault.DecodeFault.TheVariants.{TemplateCut}
use Rattle.tca_templates.specs.Templates.{shortest_of}
use Rattle.tca_templates.specs.Specifiers.{spec_at, specs_on}
use Rattle.tca_templates.proofs.Specs.{spec_size, specs_next, specs_cut, specs_measured, shortest_behind}
use Rattle.tca_templates.proofs.specifiers.measure_specifiers.Goals as goal

pub loop-preserved : goal.loop-preserved
loop-preserved c =
    let cut = TemplateCut c.args.at in
    let rest = c.loop.rest.now in
    let x : FieldSpec × ℕ = (c.in-Some.spec, c.in-Some.size) in
    let e : spec_at rest ≡ Some x = sym c.specifier.ensures ∙ c.in-Some.is in
    let left : c.args.count - c.loop.counter ≡ suc (c.args.count - (c.loop.counter + 1)) = omega arith in
    let specs = c.loop.invariant.so_far.0 in
    let step = specs_next cut specs c.loop.used (c.args.count - (c.loop.counter + 1)) rest x e in
    record {
      so_far = (
        specs ++ x.0 ∷ [],
        rw c.split_at.ensures.back (sym step ∙ ap (λ n. specs_on cut specs c.loop.used n rest) (sym left) ∙ c.loop.invariant.so_far.1),
        omega (arith, shortest_behind specs x.0, c.loop.invariant.so_far.2, c.least-shortest.ensures.least),
      );
      place = rw c.split_at.ensures.back (omega (arith, spec_size rest x e, length-drop x.1 rest, c.loop.invariant.place));
      bound = omega (arith, c.least-shortest.ensures.small, c.loop.invariant.bound);
    }

pub returns-in_default-clause-exact : goal.returns-in_default-clause-exact
returns-in_default-clause-exact c =
    let cut = TemplateCut c.args.at in
    let specs = c.loop.invariant.so_far.0 in
    let left : c.args.count - c.loop.counter ≡ suc (c.args.count - (c.loop.counter + 1)) = omega arith in
    sym (sym c.loop.invariant.so_far.1 ∙ ap (λ n. specs_on cut specs c.loop.used n c.loop.rest.now) left ∙ specs_cut cut specs c.loop.used _ c.loop.rest.now (sym c.in_default.ensures))

pub returns-clause-exact : goal.returns-clause-exact
returns-clause-exact c =
    let s = c.loop.invariant.so_far in
    let m = specs_measured (TemplateCut c.args.at) s.0 c.args.head c.loop.used c.args.count (c.args.count - c.loop.counter) c.args.octets.now c.loop.rest.now (omega arith) s.1 in
    rw (sym m.are) (sym m.is)

pub returns-clause-shortest : goal.returns-clause-shortest
returns-clause-shortest c =
    let s = c.loop.invariant.so_far in
    let m = specs_measured (TemplateCut c.args.at) s.0 c.args.head c.loop.used c.args.count (c.args.count - c.loop.counter) c.args.octets.now c.loop.rest.now (omega arith) s.1 in
    s.2 ∙ ap shortest_of m.are

pub returns-clause-whole : goal.returns-clause-whole
returns-clause-whole c =
    let s = c.loop.invariant.so_far in
    let m = specs_measured (TemplateCut c.args.at) s.0 c.args.head c.loop.used c.args.count (c.args.count - c.loop.counter) c.args.octets.now c.loop.rest.now (omega arith) s.1 in
    omega (arith, m.many, ap length m.are)

pub returns-clause-within : goal.returns-clause-within
returns-clause-within c =
    let s = c.loop.invariant.so_far in
    let m = specs_measured (TemplateCut c.args.at) s.0 c.args.head c.loop.used c.args.count (c.args.count - c.loop.counter) c.args.octets.now c.loop.rest.now (omega arith) s.1 in
    (m.more, m.within)
