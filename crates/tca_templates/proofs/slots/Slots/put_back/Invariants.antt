use Rattle.std.proofs.Common.{◌≡◌, Some, None}
use Rattle.tca_templates.specs.inside.Slotted.{filled, undone, IsKept, IsCovered}
use Rattle.tca_templates.proofs.slots.Slots.put_back.Given as goal

abbrev pub invariant-loop-place : goal.invariant-loop-place
invariant-loop-place l = record {
  kept : IsKept l.self-inside.slots.items l.self-inside.places.entries l.self-inside.count (Some l.steps.items);
  covered : IsCovered l.self-inside.slots.items l.self-inside.kinds.entries (Some l.steps.items);
  before : filled (undone l.steps.items l.self-inside.slots.items) ≡ filled (undone l.initial.steps.items l.initial.self-inside.slots.items);
  none : l.self-inside.steps ≡ None;
}

abbrev pub decreases-loop-place : goal.decreases-loop-place
decreases-loop-place l = goal.left-loop-place l
