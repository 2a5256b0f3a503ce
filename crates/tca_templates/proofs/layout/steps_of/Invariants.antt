use Rattle.std.proofs.Common.{◌≡◌, ◌++◌, drop}
use Rattle.tca_templates.specs.inside.Layouts.{steps_of}
use Rattle.tca_templates.proofs.layout.steps_of.Given as goal

abbrev pub invariant-loop-place : goal.invariant-loop-place
invariant-loop-place l = l.steps.items ++ steps_of l.left l.place (drop l.place l.specs) ≡ steps_of l.fn.choice 0 l.specs
