use Rattle.std.specs.Prelude.{Some}
use Rattle.tca_templates.specs.declared.layout.Spots.{Spots}
use Rattle.std.proofs.Common.{sym, ap, ◌∙◌, arith}
use Rattle.tca_templates.proofs.LayoutSteps.{fixed_more, fixed_end, fixed_here, fixed_next, fixed_all, laid_so, laid_not}
use Rattle.tca_templates.proofs.layout.lay_out.Goals as goal

pub loop-spec-preserved : goal.loop-spec-preserved
loop-spec-preserved c =
    let i = c.loop-spec.spec-index in
    let more = fixed_more c.loop-spec.spots c.args.choice c.args.specs.now i c.loop-spec.used c.loop-spec-test.true in
    record {
      spots = rw c.add_field.ensures (more ∙ c.loop-spec.invariant.spots);
      fixed = sym (fixed_next c.args.specs.now i c.loop-spec-test.true c.if-spec.false) ∙ c.loop-spec.invariant.fixed;
      few = omega (arith, c.loop-spec.invariant.few);
    }

pub returns-then-spec : goal.returns-then-spec
returns-then-spec c =
    sym (laid_not c.args.choice c.args.specs.now (sym c.loop-spec.invariant.fixed ∙ fixed_here c.args.specs.now c.loop-spec.spec-index c.loop-spec-test.true c.if-spec.true))

pub returns : goal.returns
returns c =
    let spots = sym (fixed_end c.loop-spec.spots c.args.choice c.args.specs.now c.loop-spec.spec-index c.loop-spec.used c.loop-spec-test.false) ∙ c.loop-spec.invariant.spots in
    ap (λ (s : Spots). Some s) spots
    ∙ sym (laid_so c.args.choice c.args.specs.now (sym c.loop-spec.invariant.fixed ∙ fixed_all c.args.specs.now c.loop-spec.spec-index c.loop-spec-test.false))
