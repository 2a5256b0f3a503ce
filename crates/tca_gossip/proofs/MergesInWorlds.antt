-- What a merge does in a world.
use Rattle.std.proofs.Common.{◌≡◌, ℕ, suc, zero, Bool, true, false, Option, None, Some, List, [], ◌∷◌, ◌==◌, length, take, slice_get, refl, ap, ◌∙◌, arith}
use Rattle.std.proofs.lemmas.Bool.{eq-eqb, le-ltb}
use Rattle.tca_report.specs.report.Reports.{PacketReport}
use Rattle.tca_join.specs.Maps.{get, Rises, clash_key, clash_with}
use Rattle.tca_join.specs.laws.MapLaws.{clash_nowhere}
use Rattle.tca_join.specs.Chains.{differ_at}
use Rattle.tca_gossip.specs.Replicas.{ReplicaView, chain_of, or_empty, merged_with, merge_clash}
use Rattle.tca_gossip.specs.Machines.{Machine, IsWorld, Shows, is_name, joined}
use Rattle.tca_gossip.proofs.Worlds.{prefix_length, merge_chain}
use Rattle.tca_gossip.proofs.WorldInvariants.{world_joined, others_joined}
use Rattle.tca_gossip.proofs.MergedLogs.{replica_merged}
use Rattle.tca_gossip.proofs.Logs.{equal_in_world}
use Rattle.tca_gossip.specs.Steps.{Merge, Merged, Joined}
use Rattle.tca_gossip.specs.Coupling.{WorldView, IsCoupled, with_replica, StepsTo}
use Rattle.tca_gossip.proofs.Places.{coupled_changes, shows_at, replica_at, is_there}

module _ (eq : PacketReport → PacketReport → Bool) (itself : (x : PacketReport) → eq x x ≡ true) where
  fronts_alike : (a b : ℕ) (xs : List PacketReport) → differ_at eq (take a xs) (take b xs) ≡ None
  fronts_alike zero b xs = refl
  fronts_alike (suc a) b [] = refl
  fronts_alike (suc a) zero (x ∷ xs) = refl
  fronts_alike (suc a) (suc b) (x ∷ xs) = rw (itself x, fronts_alike a b xs) refl

  neither : (a b : Option (List PacketReport)) → differ_at eq (or_empty a) (or_empty b) ≡ None → clash_with (differ_at eq) a b ≡ None
  neither None b e = refl
  neither (Some a) None e = refl
  neither (Some a) (Some b) e = e

  chains_agree : (m : Machine) (n k : ℕ) (v u : ReplicaView) → Shows m n v → Shows m k u → Rises u.chains → clash_key (differ_at eq) v.chains u.chains ≡ None
  chains_agree m n k v u v-shows u-shows rises = clash_nowhere (differ_at eq) v.chains u.chains rises (λ o.
      neither (get v.chains o) (get u.chains o) ((λ i. differ_at eq (v-shows.chains o i) (u-shows.chains o i)) ∙ fronts_alike (m.held n o) (m.held k o) (m.arrivals o)))

  -- no merge clashes
  pub no_clash : (m : Machine) (k : ℕ) (v u : ReplicaView) → IsWorld m → Shows m v.name v → Shows m k u → Rises u.chains → merge_clash eq v u ≡ None
  no_clash m k v u world v-shows u-shows rises =
      rw (
        chains_agree m v.name k v u v-shows u-shows rises,
        le-ltb (length (chain_of v v.name)) (length (chain_of u v.name)) (omega (
          arith,
          ap length (v-shows.chains v.name),
          prefix_length m world v.name v.name,
          ap length (u-shows.chains v.name),
          prefix_length m world k v.name,
          world.own v.name,
          world.within k v.name,
        )),
      ) refl

  module _ (exact : (x y : PacketReport) → eq x y ≡ true → x ≡ y) where
    -- a merge of another replica is a step
    pub merge_step : (m : Machine) (w : WorldView) (i j : ℕ) (v u : ReplicaView) → IsCoupled m w → slice_get w.replicas i ≡ Some v → slice_get w.replicas j ≡ Some u → v.name == u.name ≡ false
        → StepsTo m (Merge v.name u.name) (Merged Joined) (with_replica w i (merged_with v u))
    merge_step m w i j v u coupled at other apart =
        let v-shows = shows_at m w i v coupled at in
        let u-shows = shows_at m w j u coupled other in
        let v-is = replica_at m w i v coupled at in
        let u-is = replica_at m w j u coupled other in (
          joined m v.name u.name,
          (rw (is_there m w i v coupled at, is_there m w j u coupled other) refl, rw apart refl),
          coupled_changes m (joined m v.name u.name) w i v (merged_with v u) coupled at refl refl refl refl (world_joined m v.name u.name coupled.world)
              (replica_merged eq exact v u v-is u-is (chains_agree m v.name u.name v u v-shows u-shows u-is.rises))
              (λ o. merge_chain m coupled.world v.name u.name v u o v-shows u-shows v-is.rises u-is.rises) (λ k o other. others_joined m v.name u.name k o other),
        )

-- a merge with itself
pub merge_itself : (m : Machine) (w : WorldView) (n : ℕ) → IsCoupled m w → is_name m n ≡ true → StepsTo m (Merge n n) (Merged Joined) w
merge_itself m w n coupled named = (m, (rw named refl, rw (eq-eqb n n refl) refl), coupled)

-- equal counts, equal logs
pub equal_counts_equal_logs : (m : Machine) (w : WorldView) (i j : ℕ) (v u : ReplicaView) → IsCoupled m w → slice_get w.replicas i ≡ Some v → slice_get w.replicas j ≡ Some u → ((o : ℕ) → m.held v.name o ≡ m.held u.name o) → v.log ≡ u.log
equal_counts_equal_logs m w i j v u coupled at other same = equal_in_world m v.name u.name v u (replica_at m w i v coupled at) (replica_at m w j u coupled other) (shows_at m w i v coupled at) (shows_at m w j u coupled other) same
