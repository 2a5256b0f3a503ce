use Rattle.std.proofs.Common.{ap}
use Rattle.std.specs.Prelude.{set}
use Rattle.tca_templates.proofs.slots.put.Goals as goal

pub returns-clause-slots : goal.returns-clause-slots
returns-clause-slots c = ap (λ slot. set c.args.slots.now.items c.args.place slot) c.replace-old.ensures.after
