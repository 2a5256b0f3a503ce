use Rattle.std.proofs.Common.{◌≡◌, ℕ, List, ◌∙◌, sym, ap}
use Rattle.tca_report.specs.report.Reports.{PacketReport}
use Rattle.tca_gossip.specs.Replicas.{ReplicaView, chain_of}
use Rattle.tca_gossip.specs.Runs.{first_fault}
use Rattle.tca_gossip.specs.inside.Storage.{held_of, replica_of}
use Rattle.tca_gossip.proofs.Plains.{chain_held}
use Rattle.tca_gossip.proofs.contents.Contents.refusal.Goals as goal

pub returns-clause-fault : goal.returns-clause-fault
returns-clause-fault c =
    let v : ReplicaView = replica_of c.self.inside.name c.self.inside.billing.plan c.self.inside.log c.self.inside.chains in
    let same : held_of c.self.inside.chains ≡ chain_of v = λ i o. (sym (chain_held c.self.inside.chains o c.self.invariant.rises)) i in
    rw (← c.self.view_is) (c.refusal.ensures.fault ∙ ap (λ (held : ℕ → List PacketReport). first_fault c.self.inside.name held c.args.runs.now) same)
