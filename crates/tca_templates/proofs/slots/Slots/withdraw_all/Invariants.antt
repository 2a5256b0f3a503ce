use Rattle.std.proofs.Common.{◌≡◌, ◌≤◌, ◌<◌, ℕ, true, Some}
use Rattle.std.specs.Prelude.{slice_get}
use Rattle.std.specs.Option.{option_map}
use Rattle.tca_templates.specs.declared.template.Template.{Template}
use Rattle.tca_templates.specs.inside.Slotted.{IsKept, IsCovered, before_of}
use Rattle.tca_templates.proofs.Stored.{stays_there}
use Rattle.tca_templates.proofs.SlotLaws.{IsThinned}
use Rattle.tca_templates.proofs.slots.Slots.withdraw_all.Given as goal

abbrev pub invariant-loop-i : goal.invariant-loop-i
invariant-loop-i l = record {
  slotted : IsKept l.self-inside.1.0.items l.self-inside.1.1.0.entries l.self-inside.1.1.1.1.1.1.0 (option_map (λ v. v.items) l.self-inside.1.1.1.1.1.0);
  covered : IsCovered l.self-inside.1.0.items l.initial.self-inside.1.1.1.0.entries (option_map (λ v. v.items) l.self-inside.1.1.1.1.1.0);
  before : before_of (option_map (λ v. v.items) l.self-inside.1.1.1.1.1.0) l.self-inside.1.0.items
      ≡ before_of (option_map (λ v. v.items) l.initial.self-inside.1.1.1.1.1.0) l.initial.self-inside.1.0.items;
  thinned : IsThinned (stays_there l.domain l.options) l.initial.self-inside.1.0.items l.self-inside.1.0.items;
  gone : (n id : ℕ) → l.ids.from ≤ n → n < l.i → slice_get l.ids.all.items n ≡ Some id → (j : ℕ) (t : Template) → slice_get l.self-inside.1.0.items j ≡ Some (Some ((l.domain, id), t))
      → stays_there l.domain l.options ((l.domain, id), t) ≡ true;
}
