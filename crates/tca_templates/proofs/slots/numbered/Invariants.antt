use Rattle.std.proofs.Common.{filter, take}
use Rattle.std.specs.Option.{is_some}
use Rattle.tca_templates.specs.inside.Slotted.{IsSlotted}
use Rattle.tca_templates.proofs.slots.numbered.Given as goal

abbrev pub invariant-loop-slot : goal.invariant-loop-slot
invariant-loop-slot l = IsSlotted (filter is_some (take l.slot-index l.slots)) l.places.entries l.count
