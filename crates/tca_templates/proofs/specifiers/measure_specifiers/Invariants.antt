use Rattle.std.proofs.Common.{◌≡◌, ◌≤◌, ◌+◌, ◌-◌, ◌*◌, [], List, length}
use Rattle.tca_templates.specs.declared.template.FieldSpec.{FieldSpec}
use Rattle.tca_templates.specs.declared.fault.DecodeFault.TheVariants.{TemplateCut}
use Rattle.tca_templates.specs.Templates.{shortest_of}
use Rattle.tca_templates.specs.Specifiers.{specs_on}
use Rattle.tca_templates.proofs.specifiers.measure_specifiers.Given as goal

abbrev pub invariant-loop : goal.invariant-loop
invariant-loop l = record {
  so_far : (specs : List FieldSpec)
      × (specs_on (TemplateCut l.at) specs l.used (l.count - l.counter) l.rest ≡ specs_on (TemplateCut l.at) [] l.head l.count l.octets)
      × (l.shortest ≡ shortest_of specs);
  place : l.used + length l.rest ≡ l.head + length l.octets;
  bound : l.shortest ≤ 65535 * l.counter;
}
