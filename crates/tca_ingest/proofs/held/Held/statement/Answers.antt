use Rattle.std.proofs.lemmas.Grind.{common_steps}
use Rattle.std.proofs.Common.{subst, sym, arith}
use Rattle.tca_gossip.specs.Replicas.{ReplicaView}
use Rattle.tca_ingest.specs.Journals.{IsHistory}
use Rattle.tca_ingest.specs.EntryViews.{entry_views}
use Rattle.tca_ingest.proofs.Histories.{push_answered}
use Rattle.tca_ingest.proofs.held.Held.statement.Goals as goal

pub append-requires-clause-right : goal.append-requires-clause-right
append-requires-clause-right g c =
    let plan = g.L.Side.plan in
    let name = g.L.Side.called in
    let journal = entry_views c.self.inside.journal.items in
    let replica = c.keep_book-without.new.self in
    let history = subst (λ (v : ReplicaView). IsHistory plan name v journal) (sym c.keep_book-without.ensures) c.self.invariant.0 in
    push_answered plan name replica journal history c.append.inside.number c.in_ok-bill.bill c.in_ok-bill.ensures

pub same-self : goal.same-self
same-self g c = grind (arith, common_steps)

pub returns-then-is_full-clause-full : goal.returns-then-is_full-clause-full
returns-then-is_full-clause-full g c = grind (arith, common_steps)

pub returns-then-is_full-clause-fault : goal.returns-then-is_full-clause-fault
returns-then-is_full-clause-fault g c = grind (arith, common_steps)

pub returns-then-is_full-clause-err : goal.returns-then-is_full-clause-err
returns-then-is_full-clause-err g c = grind (arith, common_steps)

pub returns-in_err-bill-clause-appends : goal.returns-in_err-bill-clause-appends
returns-in_err-bill-clause-appends g c = grind (arith, common_steps)

pub returns-in_err-bill-clause-exact : goal.returns-in_err-bill-clause-exact
returns-in_err-bill-clause-exact g c = grind (arith, common_steps)

pub returns-in_err-bill-clause-full : goal.returns-in_err-bill-clause-full
returns-in_err-bill-clause-full g c = grind (arith, common_steps)

pub returns-in_err-bill-clause-fault : goal.returns-in_err-bill-clause-fault
returns-in_err-bill-clause-fault g c = grind (arith, common_steps)

pub returns-in_err-bill-clause-err : goal.returns-in_err-bill-clause-err
returns-in_err-bill-clause-err g c = grind (arith, common_steps)

pub same-append : goal.same-append
same-append g c = grind (arith, common_steps)

pub append-requires-clause-stays : goal.append-requires-clause-stays
append-requires-clause-stays g c = grind (arith, common_steps)

pub append-requires-clause-whose : goal.append-requires-clause-whose
append-requires-clause-whose g c = grind (arith, common_steps)

pub returns-clause-appends : goal.returns-clause-appends
returns-clause-appends g c = grind (arith, common_steps)

pub returns-clause-exact : goal.returns-clause-exact
returns-clause-exact g c = grind (arith, common_steps)

pub returns-clause-full : goal.returns-clause-full
returns-clause-full g c = grind (arith, common_steps)

pub returns-clause-fault : goal.returns-clause-fault
returns-clause-fault g c = grind (arith, common_steps)

pub returns-clause-err : goal.returns-clause-err
returns-clause-err g c = grind (arith, common_steps)
