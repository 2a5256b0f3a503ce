use Rattle.std.proofs.Common.{◌≡◌, [], sym, ◌∙◌, subst, rules, arith}
use Rattle.tca_ingest.specs.EntryViews.{entry_views}
use Rattle.tca_ingest.specs.Journals.{IsHistory}
use Rattle.tca_gossip.specs.Replicas.{new_replica}
use Rattle.tca_ingest.proofs.Histories.{history_new}
use Rattle.tca_ingest.proofs.held.Held.new.Goals as goal

pub invariant_of-result : goal.invariant_of-result
invariant_of-result g c =
    let plan = g.L.Side.plan in
    let name = g.L.Side.called in
    let first = subst (λ v. IsHistory plan name v []) (sym (c.in_ok-replica.ensures ∙ (λ i. new_replica (c.requires.plan i) (c.requires.called i)))) (history_new plan name) in
    let none : c.new-2.result.items ≡ [] = search rules in
    (subst (λ es. IsHistory plan name c.in_ok-replica.replica (entry_views es)) (sym none) first, search rules, search (rules, arith), c.open-book.ensures.amount)
