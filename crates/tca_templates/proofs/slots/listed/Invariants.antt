use Rattle.std.proofs.Common.{◌≡◌, ℕ, Option, Some, take}
use Rattle.std.specs.Prelude.{slice_get}
use Rattle.tca_templates.specs.declared.template.Template.{Template}
use Rattle.tca_templates.specs.Templates.{Key}
use Rattle.tca_templates.specs.inside.Slotted.{IsListed}
use Rattle.tca_templates.proofs.slots.listed.Given as goal

abbrev pub invariant-loop-slot : goal.invariant-loop-slot
invariant-loop-slot l = (i : ℕ) (s : Option (Key × Template)) → slice_get (take l.slot-index l.slots) i ≡ Some s → IsListed l.kinds.entries s
