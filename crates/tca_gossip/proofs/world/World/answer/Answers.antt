use Rattle.std.proofs.Common.{◌≡◌, ◌<◌, Some, map, length, slice_get, refl, sym, ap, ◌∙◌, arith}
use Rattle.tca_gossip.specs.Coupling.{Summary}
use Rattle.tca_gossip.specs.Worlds.{message_view}
use Rattle.tca_gossip.proofs.StepEnds.{answer_full, answer_sent, answer_no_memory, answer_wrong, answer_no_message, message_there, no_message, sent_length, replica_seen, message_seen}
use Rattle.tca_gossip.proofs.world.World.answer.Goals as goal

pub returns-then-len-ge-MESSAGES-clause-steps : goal.returns-then-len-ge-MESSAGES-clause-steps
returns-then-len-ge-MESSAGES-clause-steps c m coupled = answer_full c.args.self.now m coupled c.args.at c.args.message (omega (arith, sent_length c.args.self.now c.self.inside.plan c.self.inside.replicas.items c.self.inside.sent.items c.self.view_is, c.if-len-ge-MESSAGES.true, c.len.ensures))

pub returns-in-Some-send-clause-steps : goal.returns-in-Some-send-clause-steps
returns-in-Some-send-clause-steps c m coupled =
    let w = c.args.self.now in
    let room : length w.sent < 4294967295 = omega (arith, sent_length c.args.self.now c.self.inside.plan c.self.inside.replicas.items c.self.inside.sent.items c.self.view_is, c.if-len-ge-MESSAGES.false, c.len.ensures) in
    let known : slice_get c.args.self.now.sent c.args.message ≡ Some (Summary c.in-Some-Counts.counts) =
    sym (message_seen c.args.self.now c.self.inside.plan c.self.inside.replicas.items c.self.inside.sent.items c.self.view_is c.args.message) ∙ ap (λ l. slice_get (map message_view l) c.args.message) (sym c.deref.ensures.value) ∙ message_there c.deref.result.now c.args.message c.in-Some-Counts.field-0.now c.in-Some-Counts.ensures.lookup.3.0 c.in-Some-Counts.ensures.lookup.1 ∙ ap (λ z. Some (message_view z)) c.in-Some-Counts.field-0-is in
    answer_sent w m coupled c.in-Some.i c.args.at c.index.result.now c.in-Some.ensures (replica_seen c.args.self.now c.self.inside.plan c.self.inside.replicas.items c.self.inside.sent.items c.self.view_is c.in-Some.i c.index.result.now c.index.ensures)
    c.args.message c.in-Some-Counts.counts c.in-Ok.delta c.in-Some-send.number c.send.new.self room known c.in-Ok.ensures c.runs-right.ensures.right c.in-Some-send.ensures

pub returns-in-None-send-clause-steps : goal.returns-in-None-send-clause-steps
returns-in-None-send-clause-steps c m coupled =
    let w = c.args.self.now in
    let room : length w.sent < 4294967295 = omega (arith, sent_length c.args.self.now c.self.inside.plan c.self.inside.replicas.items c.self.inside.sent.items c.self.view_is, c.if-len-ge-MESSAGES.false, c.len.ensures) in
    let known : slice_get c.args.self.now.sent c.args.message ≡ Some (Summary c.in-Some-Counts.counts) =
    sym (message_seen c.args.self.now c.self.inside.plan c.self.inside.replicas.items c.self.inside.sent.items c.self.view_is c.args.message) ∙ ap (λ l. slice_get (map message_view l) c.args.message) (sym c.deref.ensures.value) ∙ message_there c.deref.result.now c.args.message c.in-Some-Counts.field-0.now c.in-Some-Counts.ensures.lookup.3.0 c.in-Some-Counts.ensures.lookup.1 ∙ ap (λ z. Some (message_view z)) c.in-Some-Counts.field-0-is in
    answer_no_memory w m coupled c.in-Some.i c.args.at c.index.result.now c.in-Some.ensures (replica_seen c.args.self.now c.self.inside.plan c.self.inside.replicas.items c.self.inside.sent.items c.self.view_is c.in-Some.i c.index.result.now c.index.ensures)
    c.args.message c.in-Some-Counts.counts c.send.new.self room known c.in-None-send.ensures

pub returns-in-Err-clause-steps : goal.returns-in-Err-clause-steps
returns-in-Err-clause-steps c m coupled =
    let w = c.args.self.now in
    let room : length w.sent < 4294967295 = omega (arith, sent_length c.args.self.now c.self.inside.plan c.self.inside.replicas.items c.self.inside.sent.items c.self.view_is, c.if-len-ge-MESSAGES.false, c.len.ensures) in
    let known : slice_get c.args.self.now.sent c.args.message ≡ Some (Summary c.in-Some-Counts.counts) =
    sym (message_seen c.args.self.now c.self.inside.plan c.self.inside.replicas.items c.self.inside.sent.items c.self.view_is c.args.message) ∙ ap (λ l. slice_get (map message_view l) c.args.message) (sym c.deref.ensures.value) ∙ message_there c.deref.result.now c.args.message c.in-Some-Counts.field-0.now c.in-Some-Counts.ensures.lookup.3.0 c.in-Some-Counts.ensures.lookup.1 ∙ ap (λ z. Some (message_view z)) c.in-Some-Counts.field-0-is in
    answer_no_memory w m coupled c.in-Some.i c.args.at c.index.result.now c.in-Some.ensures (replica_seen c.args.self.now c.self.inside.plan c.self.inside.replicas.items c.self.inside.sent.items c.self.view_is c.in-Some.i c.index.result.now c.index.ensures)
    c.args.message c.in-Some-Counts.counts w room known refl

pub returns-in-Some-Parts-clause-steps : goal.returns-in-Some-Parts-clause-steps
returns-in-Some-Parts-clause-steps c m coupled =
    answer_wrong c.args.self.now m coupled c.args.at c.args.message c.in-Some-Parts.field-0-0
    (sym (message_seen c.args.self.now c.self.inside.plan c.self.inside.replicas.items c.self.inside.sent.items c.self.view_is c.args.message) ∙ ap (λ l. slice_get (map message_view l) c.args.message) (sym c.deref.ensures.value) ∙ message_there c.deref.result.now c.args.message c.in-Some-Parts.field-0.now c.in-Some-Parts.ensures.lookup.3.0 c.in-Some-Parts.ensures.lookup.1 ∙ ap (λ z. Some (message_view z)) c.in-Some-Parts.field-0-is)

pub returns-in-None-clause-steps : goal.returns-in-None-clause-steps
returns-in-None-clause-steps c m coupled =
    answer_no_message c.args.self.now m coupled c.args.at c.args.message
    (sym (message_seen c.args.self.now c.self.inside.plan c.self.inside.replicas.items c.self.inside.sent.items c.self.view_is c.args.message) ∙ ap (λ l. slice_get (map message_view l) c.args.message) (sym c.deref.ensures.value) ∙ no_message c.deref.result.now c.args.message c.in-None.ensures.lookup.3)
