use Rattle.std.proofs.Common.{◌≡◌, ◌≤◌, ◌*◌, drop}
use Rattle.tca_templates.specs.inside.Layouts.{fixed_spot, are_fixed, spots_of, spots_with}
use Rattle.tca_templates.proofs.layout.lay_out.Given as goal

abbrev pub invariant-loop-spec : goal.invariant-loop-spec
invariant-loop-spec l = record {
  spots : spots_with l.spots (spots_of l.choice (λ e. fixed_spot e l.used (drop l.spec-index l.specs))) ≡ spots_of l.choice (λ e. fixed_spot e 0 l.specs);
  fixed : are_fixed (drop l.spec-index l.specs) ≡ are_fixed l.specs;
  few : l.used ≤ 65535 * l.spec-index;
}
