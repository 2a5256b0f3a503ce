use Rattle.std.proofs.lemmas.Grind.{common_steps}
use Rattle.std.proofs.Common.{◌∙◌, subst, arith}
use Rattle.tca_gossip.specs.Coupling.{counts_of}
use Rattle.tca_ingest.specs.Journals.{IsHistory}
use Rattle.tca_ingest.specs.Shares.{HeldView}
use Rattle.tca_ingest.proofs.Histories.{push_asked}
use Rattle.tca_ingest.proofs.held.Held.summary.Goals as goal

pub append-requires-clause-right : goal.append-requires-clause-right
append-requires-clause-right g c =
    let plan = g.L.Side.plan in
    let name = g.L.Side.called in
    let now = c.args.self.now in
    let history = subst (λ (h : HeldView). IsHistory plan name h.replica h.journal) c.self.view_is c.self.invariant.0 in
    push_asked plan name now.replica now.journal history c.append.inside.number c.in_ok-summary.summary (c.in_ok-summary.ensures.exact ∙ (λ i. counts_of (c.self.view_is i).replica.chains))

pub same-self : goal.same-self
same-self g c = grind (arith, common_steps)

pub returns-then-is_full-clause-full : goal.returns-then-is_full-clause-full
returns-then-is_full-clause-full g c = grind (arith, common_steps)

pub returns-then-is_full-clause-fault : goal.returns-then-is_full-clause-fault
returns-then-is_full-clause-fault g c = grind (arith, common_steps)

pub returns-then-is_full-clause-err : goal.returns-then-is_full-clause-err
returns-then-is_full-clause-err g c = grind (arith, common_steps)

pub same-self-in_err-summary : goal.same-self-in_err-summary
same-self-in_err-summary g c = grind (arith, common_steps)

pub returns-in_err-summary-clause-appends : goal.returns-in_err-summary-clause-appends
returns-in_err-summary-clause-appends g c = grind (arith, common_steps)

pub returns-in_err-summary-clause-exact : goal.returns-in_err-summary-clause-exact
returns-in_err-summary-clause-exact g c = grind (arith, common_steps)

pub returns-in_err-summary-clause-full : goal.returns-in_err-summary-clause-full
returns-in_err-summary-clause-full g c = grind (arith, common_steps)

pub returns-in_err-summary-clause-fault : goal.returns-in_err-summary-clause-fault
returns-in_err-summary-clause-fault g c = grind (arith, common_steps)

pub returns-in_err-summary-clause-err : goal.returns-in_err-summary-clause-err
returns-in_err-summary-clause-err g c = grind (arith, common_steps)

pub same-self-2 : goal.same-self-2
same-self-2 g c = grind (arith, common_steps)

pub same-append : goal.same-append
same-append g c = grind (arith, common_steps)

pub append-requires-clause-stays : goal.append-requires-clause-stays
append-requires-clause-stays g c = grind (arith, common_steps)

pub append-requires-clause-whose : goal.append-requires-clause-whose
append-requires-clause-whose g c = grind (arith, common_steps)

pub returns-clause-appends : goal.returns-clause-appends
returns-clause-appends g c = grind (arith, common_steps)

pub returns-clause-exact : goal.returns-clause-exact
returns-clause-exact g c = grind (arith, common_steps)

pub returns-clause-full : goal.returns-clause-full
returns-clause-full g c = grind (arith, common_steps)

pub returns-clause-fault : goal.returns-clause-fault
returns-clause-fault g c = grind (arith, common_steps)

pub returns-clause-err : goal.returns-clause-err
returns-clause-err g c = grind (arith, common_steps)
