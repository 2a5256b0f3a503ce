use Rattle.tca_templates.proofs.KeyOrder.{held_written, entered_written}
use Rattle.tca_templates.proofs.slots.enter_place.Goals as goal

pub returns-clause-held : goal.returns-clause-held
returns-clause-held c = held_written c.args.key _ _ _ c.in_ok-insert.ensures.updates.0

pub returns-clause-entered : goal.returns-clause-entered
returns-clause-entered c = entered_written c.args.key _ _ _ c.in_ok-insert.ensures.updates.0
