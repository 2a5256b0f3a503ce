-- Replicas of a world that hold equally much hold the same.
use Rattle.std.proofs.Common.{◌≡◌, ℕ, Some, length, slice_get, sym, ap, ◌∙◌}
use Rattle.tca_accounts.specs.Bills.{bill_of}
use Rattle.tca_gossip.specs.Replicas.{ReplicaView}
use Rattle.tca_gossip.specs.Runs.{summary_count}
use Rattle.tca_gossip.specs.Machines.{Machine}
use Rattle.tca_gossip.specs.Coupling.{WorldView, IsCoupled, counts_of}
use Rattle.tca_gossip.proofs.Worlds.{prefix_length}
use Rattle.tca_gossip.proofs.Places.{plan_at, replica_at, shows_at}
use Rattle.tca_gossip.proofs.Answering.{counts_are}
use Rattle.tca_gossip.proofs.MergesInWorlds.{equal_counts_equal_logs}

-- a summary counts what is held
summary_is : (m : Machine) (w : WorldView) (i : ℕ) (v : ReplicaView) → IsCoupled m w → slice_get w.replicas i ≡ Some v → (o : ℕ) → summary_count (counts_of v.chains) o ≡ m.held v.name o
summary_is m w i v coupled at o = counts_are v.chains o (replica_at m w i v coupled at).rises ∙ ap length ((shows_at m w i v coupled at).chains o) ∙ prefix_length m coupled.world v.name o

module _ (m : Machine) (w : WorldView) (i j : ℕ) (v u : ReplicaView) (coupled : IsCoupled m w) (at : slice_get w.replicas i ≡ Some v) (other : slice_get w.replicas j ≡ Some u) where
  pub equal_bills : ((o : ℕ) → m.held v.name o ≡ m.held u.name o) → bill_of v.plan v.log ≡ bill_of u.plan u.log
  equal_bills same = λ k. bill_of ((plan_at m w i v coupled at ∙ sym (plan_at m w j u coupled other)) k) (equal_counts_equal_logs m w i j v u coupled at other same k)

  pub equal_summaries : counts_of v.chains ≡ counts_of u.chains → (v.log ≡ u.log) × (bill_of v.plan v.log ≡ bill_of u.plan u.log)
  equal_summaries alike =
      let same : (o : ℕ) → m.held v.name o ≡ m.held u.name o = λ o. sym (summary_is m w i v coupled at o) ∙ ap (λ s. summary_count s o) alike ∙ summary_is m w j u coupled other o in
      (equal_counts_equal_logs m w i j v u coupled at other same, equal_bills same)
