use Rattle.std.proofs.Common.{Some, map, sym, subst}
use Rattle.tca_report.proofs.lemmas.report.Order.{report_eq}
use Rattle.tca_gossip.specs.Coupling.{WorldView, IsCoupled}
use Rattle.tca_gossip.specs.Worlds.{message_view, IsPlace}
use Rattle.tca_gossip.proofs.Exact.{alike_report, exact_report}
use Rattle.tca_gossip.proofs.Finding.{apart_places}
use Rattle.tca_gossip.proofs.StepEnds.{merge_same, merge_ends, place_seen}
use Rattle.tca_gossip.proofs.world.World.merge.Goals as goal

pub merge_two-requires-clause-into_there : goal.merge_two-requires-clause-into_there
merge_two-requires-clause-into_there c = (subst (λ z. IsPlace z c.args.into (Some c.in-Some.i)) (sym c.self.view_is) c.in-Some.ensures).0

pub merge_two-requires-clause-other_there : goal.merge_two-requires-clause-other_there
merge_two-requires-clause-other_there c = (subst (λ z. IsPlace z c.args.other (Some c.in-Some-place.j)) (sym c.self.view_is) c.in-Some-place.ensures).0

pub merge_two-requires-clause-apart : goal.merge_two-requires-clause-apart
merge_two-requires-clause-apart c = apart_places c.args.self.now c.args.into c.args.other c.in-Some.i c.in-Some-place.j c.in-Some.ensures c.in-Some-place.ensures c.if-into-other.false

pub returns-then-into-other-clause-steps : goal.returns-then-into-other-clause-steps
returns-then-into-other-clause-steps c m coupled = merge_same c.args.self.now m coupled c.in-Some.i c.args.into (place_seen c.args.self.now c.args.into c.in-Some.i c.in-Some.ensures).0 c.in-Some.ensures (place_seen c.args.self.now c.args.into c.in-Some.i c.in-Some.ensures).1 c.args.other c.if-into-other.true

pub returns-else-into-other-clause-steps : goal.returns-else-into-other-clause-steps
returns-else-into-other-clause-steps c m coupled =
    let w : WorldView = record { plan = c.self.inside.plan; replicas = c.self.inside.replicas.items; sent = map message_view c.self.inside.sent.items } in
    merge_ends w m (subst (IsCoupled m) (sym c.self.view_is) coupled) report_eq alike_report exact_report c.in-Some.i c.in-Some-place.j c.args.into c.args.other
    (subst (λ z. IsPlace z c.args.into (Some c.in-Some.i)) (sym c.self.view_is) c.in-Some.ensures) (subst (λ z. IsPlace z c.args.other (Some c.in-Some-place.j)) (sym c.self.view_is) c.in-Some-place.ensures)
    c.if-into-other.false c.merge_two.new.replicas.items c.merge_two.result c.merge_two.ensures.ok c.merge_two.ensures.err c.merge_two.ensures.fault
