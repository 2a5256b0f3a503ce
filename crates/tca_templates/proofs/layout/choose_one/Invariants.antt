use Rattle.std.proofs.Common.{◌≡◌, drop}
use Rattle.tca_templates.specs.Chosen.{chosen_of}
use Rattle.tca_templates.proofs.layout.choose_one.Given as goal

abbrev pub invariant-loop-element : goal.invariant-loop-element
invariant-loop-element l = chosen_of (drop l.element-index l.elements) l.specs ≡ chosen_of l.elements l.specs
