use Rattle.std.proofs.Common.{rules}
use Rattle.tca_templates.proofs.KeyOrder.{held_written, entered_written, entered_there}
use Rattle.tca_templates.proofs.slots.set_place.Goals as goal

pub returns-in-Some-clause-held : goal.returns-in-Some-clause-held
returns-in-Some-clause-held c = held_written c.args.key _ _ _ ((c.get_mut.follows.holds _).3 (search rules)).0

pub returns-in-Some-clause-entered : goal.returns-in-Some-clause-entered
returns-in-Some-clause-entered c = entered_written c.args.key _ _ _ ((c.get_mut.follows.holds _).3 (search rules)).0

pub returns-in_default-clause-held : goal.returns-in_default-clause-held
returns-in_default-clause-held c = absurd (entered_there c.args.key c.args.places.now.entries c.requires c.in_default.ensures.value)

pub returns-in_default-clause-entered : goal.returns-in_default-clause-entered
returns-in_default-clause-entered c = absurd (entered_there c.args.key c.args.places.now.entries c.requires c.in_default.ensures.value)

pub returns-in-Some-clause-as_many : goal.returns-in-Some-clause-as_many
returns-in-Some-clause-as_many c = (c.get_mut.follows.holds _).2

pub returns-in_default-clause-as_many : goal.returns-in_default-clause-as_many
returns-in_default-clause-as_many c = absurd (entered_there c.args.key c.args.places.now.entries c.requires c.in_default.ensures.value)
