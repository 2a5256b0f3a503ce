use Rattle.std.proofs.Common.{◌<◌, length, refl, arith}
use Rattle.tca_gossip.proofs.StepEnds.{ask_full, ask_sent, ask_no_memory, sent_length, replica_seen}
use Rattle.tca_gossip.proofs.world.World.ask.Goals as goal

pub returns-then-len-ge-MESSAGES-clause-steps : goal.returns-then-len-ge-MESSAGES-clause-steps
returns-then-len-ge-MESSAGES-clause-steps c m coupled = ask_full c.args.self.now m coupled c.args.at (omega (arith, sent_length c.args.self.now c.self.inside.plan c.self.inside.replicas.items c.self.inside.sent.items c.self.view_is, c.if-len-ge-MESSAGES.true, c.len.ensures))

pub returns-in-Some-send-clause-steps : goal.returns-in-Some-send-clause-steps
returns-in-Some-send-clause-steps c m coupled =
    let room : length c.args.self.now.sent < 4294967295 = omega (arith, sent_length c.args.self.now c.self.inside.plan c.self.inside.replicas.items c.self.inside.sent.items c.self.view_is, c.if-len-ge-MESSAGES.false, c.len.ensures) in
    ask_sent c.args.self.now m coupled c.in-Some.i c.args.at c.index.result.now c.in-Some.ensures (replica_seen c.args.self.now c.self.inside.plan c.self.inside.replicas.items c.self.inside.sent.items c.self.view_is c.in-Some.i c.index.result.now c.index.ensures) c.in-Ok.counts c.in-Some-send.number c.send.new.self room c.in-Ok.ensures.exact c.in-Some-send.ensures

pub returns-in-None-send-clause-steps : goal.returns-in-None-send-clause-steps
returns-in-None-send-clause-steps c m coupled =
    let room : length c.args.self.now.sent < 4294967295 = omega (arith, sent_length c.args.self.now c.self.inside.plan c.self.inside.replicas.items c.self.inside.sent.items c.self.view_is, c.if-len-ge-MESSAGES.false, c.len.ensures) in
    ask_no_memory c.args.self.now m coupled c.in-Some.i c.args.at c.index.result.now c.in-Some.ensures (replica_seen c.args.self.now c.self.inside.plan c.self.inside.replicas.items c.self.inside.sent.items c.self.view_is c.in-Some.i c.index.result.now c.index.ensures) c.send.new.self room c.in-None-send.ensures

pub returns-in-Err-clause-steps : goal.returns-in-Err-clause-steps
returns-in-Err-clause-steps c m coupled =
    let room : length c.args.self.now.sent < 4294967295 = omega (arith, sent_length c.args.self.now c.self.inside.plan c.self.inside.replicas.items c.self.inside.sent.items c.self.view_is, c.if-len-ge-MESSAGES.false, c.len.ensures) in
    ask_no_memory c.args.self.now m coupled c.in-Some.i c.args.at c.index.result.now c.in-Some.ensures (replica_seen c.args.self.now c.self.inside.plan c.self.inside.replicas.items c.self.inside.sent.items c.self.view_is c.in-Some.i c.index.result.now c.index.ensures) c.args.self.now room refl
