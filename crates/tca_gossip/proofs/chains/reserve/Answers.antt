use Rattle.std.proofs.lemmas.Grind.{common_steps}
use Rattle.std.proofs.Common.{◌∙◌, ap, true, arith}
use Rattle.tca_join.specs.Chains.{chain}
use Rattle.tca_gossip.proofs.Rooms.{room_there, held_there, kept_there, room_added, held_added, kept_added, rises_set, rises_added}
use Rattle.tca_gossip.proofs.chains.reserve.Goals as goal

pub returns-in-Some-clause-room : goal.returns-in-Some-clause-room
returns-in-Some-clause-room c = room_there c.args.chains.now c.keys-rises.ensures.rises c.args.origin c.in-Some.chain.now c.reserve.new.self c.reserve.result c.in-Some.ensures.value c.reserve.ensures.ok

pub returns-in-Some-clause-held : goal.returns-in-Some-clause-held
returns-in-Some-clause-held c = held_there c.args.chains.now c.keys-rises.ensures.rises c.args.origin c.in-Some.chain.now c.reserve.new.self c.reserve.result c.in-Some.ensures.value c.reserve.ensures.ok c.reserve.ensures.err

pub returns-in-Some-clause-kept : goal.returns-in-Some-clause-kept
returns-in-Some-clause-kept c = kept_there c.args.chains.now c.keys-rises.ensures.rises c.args.origin c.in-Some.chain.now c.reserve.new.self c.reserve.result c.in-Some.ensures.value c.reserve.ensures.ok c.reserve.ensures.err

pub returns-clause-room : goal.returns-clause-room
returns-clause-room c = room_added c.args.chains.now c.keys-rises.ensures.rises c.args.origin c.reserve-2.new.self c.set.new.self c.set.result c.in_default.ensures.value (c.in_ok-reserve.ensures.ok ∙ ap (λ z. chain z.items true) c.new-chain.ensures) c.set.ensures.ok

pub returns-clause-held : goal.returns-clause-held
returns-clause-held c = held_added c.args.chains.now c.keys-rises.ensures.rises c.args.origin c.reserve-2.new.self c.set.new.self c.set.result c.in_default.ensures.value (c.in_ok-reserve.ensures.ok ∙ ap (λ z. chain z.items true) c.new-chain.ensures) c.set.ensures.ok c.set.ensures.err

pub returns-clause-kept : goal.returns-clause-kept
returns-clause-kept c = kept_added c.args.chains.now c.keys-rises.ensures.rises c.args.origin c.reserve-2.new.self c.set.new.self c.set.result c.in_default.ensures.value (c.in_ok-reserve.ensures.ok ∙ ap (λ z. chain z.items true) c.new-chain.ensures) c.set.ensures.ok c.set.ensures.err

pub returns-in-Some-clause-rises : goal.returns-in-Some-clause-rises
returns-in-Some-clause-rises c = rises_set c.args.chains.now c.keys-rises.ensures.rises c.args.origin c.reserve.new.self

pub returns-clause-rises : goal.returns-clause-rises
returns-clause-rises c = rises_added c.args.chains.now c.keys-rises.ensures.rises c.args.origin c.reserve-2.new.self c.set.new.self c.set.result c.set.ensures.ok c.set.ensures.err

pub part_some-chains : goal.part_some-chains
part_some-chains c = grind (arith, common_steps)

pub part_none-chains : goal.part_none-chains
part_none-chains c = grind (arith, common_steps)

pub returns-in_err-reserve-clause-room : goal.returns-in_err-reserve-clause-room
returns-in_err-reserve-clause-room c = grind (arith, common_steps)

pub returns-in_err-reserve-clause-held : goal.returns-in_err-reserve-clause-held
returns-in_err-reserve-clause-held c = grind (arith, common_steps)

pub returns-in_err-reserve-clause-kept : goal.returns-in_err-reserve-clause-kept
returns-in_err-reserve-clause-kept c = grind (arith, common_steps)

pub returns-in_err-reserve-clause-rises : goal.returns-in_err-reserve-clause-rises
returns-in_err-reserve-clause-rises c = grind (arith, common_steps)

pub same-chain : goal.same-chain
same-chain c = grind (arith, common_steps)
