use Rattle.tca_accounts.proofs.Owning.{gains_of, slots_set}
use Rattle.tca_accounts.proofs.owners.Owners.insert.Goals as goal

pub invariant_of-self-2 : goal.invariant_of-self-2
invariant_of-self-2 c =
    let old = c.self.inside.map.entries in
    let new = c.insert.new.self.entries in
    let gains = gains_of old c.args.pair c.args.account new c.in_ok-before.ensures.updates.0 in
    slots_set c.self.inside.slots.items old new c.args.pair c.args.account c.slot.result c.self.invariant gains c.slot.ensures.value c.slot.ensures.below
