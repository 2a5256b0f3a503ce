use Rattle.std.proofs.Common.{◌≡◌, ◌+◌, [], length, drop, map}
use Rattle.std.specs.Prelude.{option_map}
use Rattle.tca_templates.specs.Records.{fields_on}
use Rattle.tca_templates.specs.inside.Layouts.{spot_in, spots_of, spots_with}
use Rattle.tca_templates.proofs.SteppedFields.{field_in}
use Rattle.tca_templates.proofs.layout.locate.Given as goal

abbrev pub invariant-loop-step : goal.invariant-loop-step
invariant-loop-step l = record {
  spots : spots_with l.spots (spots_of l.choice (λ e. spot_in e l.used (drop l.step-index (map (field_in l.specs) l.steps)) l.rest)) ≡ spots_of l.choice (λ e. spot_in e 0 l.specs l.octets);
  whole : option_map (λ x. x.1) (fields_on [] l.used (drop l.step-index (map (field_in l.specs) l.steps)) l.rest) ≡ option_map (λ x. x.1) (fields_on [] 0 l.specs l.octets);
  all : l.used + length l.rest ≡ length l.octets;
}
