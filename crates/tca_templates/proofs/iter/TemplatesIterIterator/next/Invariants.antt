use Rattle.std.proofs.Common.{◌≡◌, length}
use Rattle.std.specs.Slice.Iter.{iter_rest}
use Rattle.tca_templates.specs.inside.Slotted.{filled}
use Rattle.tca_templates.proofs.iter.TemplatesIterIterator.next.Given as goal

abbrev pub invariant-loop-slot : goal.invariant-loop-slot
invariant-loop-slot l = filled (iter_rest l.self-inside.left) ≡ filled (iter_rest l.initial.self-inside.left)

abbrev pub decreases-loop-slot : goal.decreases-loop-slot
decreases-loop-slot l = length (iter_rest l.self-inside.left)
