use Rattle.std.proofs.Common.{Some, map, sym, subst}
use Rattle.tca_gossip.specs.Coupling.{WorldView, IsCoupled}
use Rattle.tca_gossip.specs.Worlds.{message_view, IsPlace}
use Rattle.tca_gossip.proofs.StepEnds.{take_ends}
use Rattle.tca_gossip.proofs.world.World.take.Goals as goal

pub returns-in-Some-clause-steps : goal.returns-in-Some-clause-steps
returns-in-Some-clause-steps c m coupled =
    let w : WorldView = record { plan = c.self.inside.plan; replicas = c.self.inside.replicas.items; sent = map message_view c.self.inside.sent.items } in
    take_ends w m (subst (IsCoupled m) (sym c.self.view_is) coupled) c.in-Some.i c.args.at c.index_mut.result.now (subst (λ z. IsPlace z c.args.at (Some c.in-Some.i)) (sym c.self.view_is) c.in-Some.ensures) c.index_mut.ensures.value c.take.new.self c.args.reports.now c.take.result
    c.take.ensures.within c.take.ensures.state c.take.ensures.fresh c.take.ensures.stop
