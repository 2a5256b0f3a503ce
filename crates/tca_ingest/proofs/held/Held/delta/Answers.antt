use Rattle.std.proofs.lemmas.Grind.{common_steps}
use Rattle.std.proofs.Common.{◌∙◌, sym, subst, arith}
use Rattle.tca_gossip.specs.Runs.{delta_of, summary_count}
use Rattle.tca_ingest.specs.Journals.{IsHistory}
use Rattle.tca_ingest.specs.Shares.{HeldView}
use Rattle.tca_ingest.proofs.Histories.{push_sent}
use Rattle.tca_ingest.proofs.held.Held.delta.Goals as goal

pub append-requires-clause-right : goal.append-requires-clause-right
append-requires-clause-right g c =
    let plan = g.L.Side.plan in
    let name = g.L.Side.called in
    let now = c.args.self.now in
    let history = subst (λ (h : HeldView). IsHistory plan name h.replica h.journal) c.self.view_is c.self.invariant.0 in
    push_sent plan name now.replica now.journal history c.append.inside.number c.in_ok-since.since c.in_ok-delta.delta (c.in_ok-delta.ensures ∙ (λ i. delta_of (summary_count (sym c.in_ok-since.ensures i)) (c.self.view_is i).replica.chains))

pub same-self : goal.same-self
same-self g c = grind (arith, common_steps)

pub returns-then-is_full-clause-full : goal.returns-then-is_full-clause-full
returns-then-is_full-clause-full g c = grind (arith, common_steps)

pub returns-then-is_full-clause-fault : goal.returns-then-is_full-clause-fault
returns-then-is_full-clause-fault g c = grind (arith, common_steps)

pub returns-then-is_full-clause-err : goal.returns-then-is_full-clause-err
returns-then-is_full-clause-err g c = grind (arith, common_steps)

pub same-self-in_err-delta : goal.same-self-in_err-delta
same-self-in_err-delta g c = grind (arith, common_steps)

pub returns-in_err-delta-clause-appends : goal.returns-in_err-delta-clause-appends
returns-in_err-delta-clause-appends g c = grind (arith, common_steps)

pub returns-in_err-delta-clause-exact : goal.returns-in_err-delta-clause-exact
returns-in_err-delta-clause-exact g c = grind (arith, common_steps)

pub returns-in_err-delta-clause-full : goal.returns-in_err-delta-clause-full
returns-in_err-delta-clause-full g c = grind (arith, common_steps)

pub returns-in_err-delta-clause-fault : goal.returns-in_err-delta-clause-fault
returns-in_err-delta-clause-fault g c = grind (arith, common_steps)

pub returns-in_err-delta-clause-err : goal.returns-in_err-delta-clause-err
returns-in_err-delta-clause-err g c = grind (arith, common_steps)

pub same-self-in_err-since : goal.same-self-in_err-since
same-self-in_err-since g c = grind (arith, common_steps)

pub returns-in_err-since-clause-appends : goal.returns-in_err-since-clause-appends
returns-in_err-since-clause-appends g c = grind (arith, common_steps)

pub returns-in_err-since-clause-exact : goal.returns-in_err-since-clause-exact
returns-in_err-since-clause-exact g c = grind (arith, common_steps)

pub returns-in_err-since-clause-full : goal.returns-in_err-since-clause-full
returns-in_err-since-clause-full g c = grind (arith, common_steps)

pub returns-in_err-since-clause-fault : goal.returns-in_err-since-clause-fault
returns-in_err-since-clause-fault g c = grind (arith, common_steps)

pub returns-in_err-since-clause-err : goal.returns-in_err-since-clause-err
returns-in_err-since-clause-err g c = grind (arith, common_steps)

pub same-self-2 : goal.same-self-2
same-self-2 g c = grind (arith, common_steps)

pub same-delta : goal.same-delta
same-delta g c = grind (arith, common_steps)

pub same-append : goal.same-append
same-append g c = grind (arith, common_steps)

pub append-requires-clause-stays : goal.append-requires-clause-stays
append-requires-clause-stays g c = grind (arith, common_steps)

pub append-requires-clause-whose : goal.append-requires-clause-whose
append-requires-clause-whose g c = grind (arith, common_steps)

pub returns-clause-appends : goal.returns-clause-appends
returns-clause-appends g c = grind (arith, common_steps)

pub returns-clause-exact : goal.returns-clause-exact
returns-clause-exact g c = grind (arith, common_steps)

pub returns-clause-full : goal.returns-clause-full
returns-clause-full g c = grind (arith, common_steps)

pub returns-clause-fault : goal.returns-clause-fault
returns-clause-fault g c = grind (arith, common_steps)

pub returns-clause-err : goal.returns-clause-err
returns-clause-err g c = grind (arith, common_steps)
