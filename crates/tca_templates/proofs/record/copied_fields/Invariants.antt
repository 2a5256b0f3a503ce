use Rattle.std.proofs.Common.{◌≡◌, ◌≤◌, ℕ, [], length, drop, map}
use Rattle.tca_templates.specs.Records.{fields_on}
use Rattle.tca_templates.specs.Outcomes.{value_view}
use Rattle.tca_templates.proofs.record.copied_fields.Given as goal

abbrev pub invariant-loop-spec : goal.invariant-loop-spec
invariant-loop-spec l = record {
  so_far : (used : ℕ) × (fields_on (map value_view l.copy.items) used (drop l.spec-index l.specs) l.rest ≡ fields_on [] 0 l.specs l.octets);
  within : length l.rest ≤ length l.octets;
}
