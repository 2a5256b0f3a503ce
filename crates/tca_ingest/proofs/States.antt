-- Closed replicas and the world that they are a state of.
use Rattle.std.proofs.Common.{◌≡◌, ◌≢◌, List, [], ◌∷◌, map, refl, sym}
use Rattle.std.proofs.lemmas.List.Elements.{recursion_from_All}
use Rattle.std.specs.List.{All, AllByRecursion}
use Rattle.tca_accounts.specs.Plans.{AccountPlan}
use Rattle.tca_gossip.specs.Replicas.{ReplicaView, IsReplica}
use Rattle.tca_gossip.specs.Machines.{Shows}
use Rattle.tca_gossip.specs.Coupling.{AreDistinct, IsCoupled, name_of}
use Rattle.tca_ingest.specs.Journals.{IsHistory}
use Rattle.tca_ingest.specs.Closed.{ClosedView, replicas_of, AreClosed, world_of}
use Rattle.tca_ingest.proofs.Histories.{history_plan, history_replica}
use Rattle.tca_ingest.proofs.Pairs.{Pairwise, pairwise}
use Rattle.tca_ingest.proofs.Worlds.{closed_world, closed_shows}

all_names : (v : ReplicaView) (vs : List ReplicaView) → AllByRecursion (λ w. v.name ≢ w.name) vs → AllByRecursion (λ k. k ≡ v.name → ⊥) (map name_of vs)
all_names v [] h = tt
all_names v (w ∷ vs) h = ((λ same. h.0 (sym same)), all_names v vs h.1)

names_apart : (vs : List ReplicaView) → Pairwise (λ v w. v.name ≢ w.name) vs → AreDistinct (map name_of vs)
names_apart [] h = tt
names_apart (v ∷ vs) h = (all_names v vs h.0, names_apart vs h.1)

of_histories : (P : ReplicaView → Type 0) (plan : AccountPlan) → ((c : ClosedView) → IsHistory plan c.replica.name c.replica c.journal → P c.replica) → (cs : List ClosedView) → AllByRecursion (λ c. IsHistory plan c.replica.name c.replica c.journal) cs → AllByRecursion P (replicas_of cs)
of_histories P plan each [] h = tt
of_histories P plan each (c ∷ cs) h = (each c h.0, of_histories P plan each cs h.1)

pub closed_state : (plan : AccountPlan) (cs : List ClosedView) → AreClosed (replicas_of cs) → All (λ c. IsHistory plan c.replica.name c.replica c.journal) cs
    → IsCoupled (world_of (replicas_of cs)) (record { plan = plan; replicas = replicas_of cs; sent = [] })
closed_state plan cs closed histories =
    let vs = replicas_of cs in
    let each = recursion_from_All (λ c. IsHistory plan c.replica.name c.replica c.journal) cs histories in
    record {
      names = refl;
      apart = names_apart vs (pairwise (λ v w. v.name ≢ w.name) vs closed.names);
      shows = recursion_from_All (λ v. Shows (world_of vs) v.name v) vs (closed_shows vs closed);
      replicas = of_histories IsReplica plan (λ c h. history_replica plan c.replica.name c.replica c.journal h) cs each;
      plans = of_histories (λ v. v.plan ≡ plan) plan (λ c h. history_plan plan c.replica.name c.replica c.journal h) cs each;
      sent = tt;
      world = closed_world vs closed;
    }
