use Rattle.std.proofs.lemmas.Grind.{common_steps}
use Rattle.std.proofs.Common.{◌≡◌, Some, map, slice_get, sym, ap, ◌∙◌, subst, arith}
use Rattle.tca_gossip.specs.Answers.{cause_of, outcome_of}
use Rattle.tca_gossip.specs.Replicas.{chain_of}
use Rattle.tca_gossip.specs.Runs.{rests}
use Rattle.tca_gossip.specs.Coupling.{Summary, Delta, WorldView, IsCoupled}
use Rattle.tca_gossip.specs.Worlds.{message_view, IsPlace}
use Rattle.tca_gossip.proofs.StepEnds.{deliver_ends, deliver_wrong, deliver_no_message, message_there, no_message}
use Rattle.tca_gossip.proofs.Stops.{cause_is}
use Rattle.tca_gossip.proofs.world.World.deliver.Goals as goal

pub returns-in-Some-Parts-clause-steps : goal.returns-in-Some-Parts-clause-steps
returns-in-Some-Parts-clause-steps c m coupled =
    let w : WorldView = record { plan = c.self.inside.plan; replicas = c.self.inside.replicas.items; sent = map message_view c.self.inside.sent.items } in
    let known : slice_get w.sent c.args.message ≡ Some (Delta c.in-Some-Parts.delta) =
    ap (λ l. slice_get (map message_view l) c.args.message) (sym c.deref.ensures.value) ∙ message_there c.deref.result.now c.args.message c.in-Some-Parts.field-0.now c.in-Some-Parts.ensures.lookup.3.0 c.in-Some-Parts.ensures.lookup.1 ∙ ap (λ z. Some (message_view z)) c.in-Some-Parts.field-0-is in
    deliver_ends w m (subst (IsCoupled m) (sym c.self.view_is) coupled) c.in-Some.i c.args.to c.index_mut.result.now (subst (λ z. IsPlace z c.args.to (Some c.in-Some.i)) (sym c.self.view_is) c.in-Some.ensures) c.index_mut.ensures.value c.args.message c.in-Some-Parts.delta c.absorb.new.self (outcome_of c.absorb.result) (cause_of c.absorb.result) known c.absorb.ensures.state c.absorb.ensures.outcome
    (cause_is c.absorb.new.self (rests (chain_of c.index_mut.result.now) c.in-Some-Parts.delta) c.absorb.result c.absorb.ensures.stop)

pub returns-in-Some-Counts-clause-steps : goal.returns-in-Some-Counts-clause-steps
returns-in-Some-Counts-clause-steps c m coupled =
    let known : slice_get c.args.self.now.sent c.args.message ≡ Some (Summary c.in-Some-Counts.field-0-0) =
    ap (λ (z : WorldView). slice_get z.sent c.args.message) (sym c.self.view_is) ∙ ap (λ l. slice_get (map message_view l) c.args.message) (sym c.deref.ensures.value) ∙ message_there c.deref.result.now c.args.message c.in-Some-Counts.field-0.now c.in-Some-Counts.ensures.lookup.3.0 c.in-Some-Counts.ensures.lookup.1 ∙ ap (λ z. Some (message_view z)) c.in-Some-Counts.field-0-is in
    deliver_wrong c.args.self.now m coupled c.args.to c.args.message c.in-Some-Counts.field-0-0 known

pub returns-in-None-get-clause-steps : goal.returns-in-None-get-clause-steps
returns-in-None-get-clause-steps c m coupled =
    deliver_no_message c.args.self.now m coupled c.args.to c.args.message
    (ap (λ (z : WorldView). slice_get z.sent c.args.message) (sym c.self.view_is) ∙ ap (λ l. slice_get (map message_view l) c.args.message) (sym c.deref.ensures.value) ∙ no_message c.deref.result.now c.args.message c.in-None-get.ensures.lookup.3)

pub get-requires : goal.get-requires
get-requires c κs = grind (arith, common_steps)

pub index_mut-requires : goal.index_mut-requires
index_mut-requires c = grind (arith, common_steps)

pub same-self : goal.same-self
same-self c = grind (arith, common_steps)

pub same-self-in-None-get : goal.same-self-in-None-get
same-self-in-None-get c = grind (arith, common_steps)

pub same-self-in-None : goal.same-self-in-None
same-self-in-None c = grind (arith, common_steps)

pub returns-in-None-clause-steps : goal.returns-in-None-clause-steps
returns-in-None-clause-steps c = grind (arith, common_steps)
