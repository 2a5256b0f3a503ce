use Rattle.std.proofs.Common.{◌≡◌, ◌-◌, ◌++◌, length}
use Rattle.tca_templates.specs.Specifiers.{specs_in}
use Rattle.tca_templates.proofs.specifiers.stored.Given as goal

abbrev pub invariant-loop : goal.invariant-loop
invariant-loop l = record {
  so_far : l.specs.items ++ specs_in (l.definition.count - l.counter) l.rest ≡ specs_in l.definition.count l.definition.octets.now;
  left : length (specs_in (l.definition.count - l.counter) l.rest) ≡ l.definition.count - l.counter;
}
