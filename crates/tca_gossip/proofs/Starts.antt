-- How a world starts, and how a run goes on.
use Rattle.std.proofs.Common.{◌≡◌, ℕ, List, [], ◌∷◌, ◌++◌, map, refl, sym, ap, subst}
use Rattle.std.specs.List.{AllByRecursion}
use Rattle.tca_accounts.specs.Plans.{AccountPlan}
use Rattle.tca_gossip.specs.Replicas.{ReplicaView, IsReplica, new_replica}
use Rattle.tca_gossip.specs.Machines.{Machine, Shows, new_machine}
use Rattle.tca_gossip.proofs.Takes.{replica_opened}
use Rattle.tca_gossip.proofs.WorldInvariants.{world_started}
use Rattle.tca_gossip.specs.Steps.{Step, Reply, IsStep, IsRun}
use Rattle.tca_gossip.specs.Coupling.{WorldView, name_of, AreDistinct, IsCoupled, StepsTo, RunsTo, new_world}

pub names_opened : (plan : AccountPlan) (names : List ℕ) → map name_of (map (new_replica plan) names) ≡ names
names_opened plan [] = refl
names_opened plan (n ∷ ns) = ap (λ (l : List ℕ). n ∷ l) (names_opened plan ns)

all_opened : (plan : AccountPlan) (P : ReplicaView → Type 0) → ((n : ℕ) → P (new_replica plan n)) → (names : List ℕ) → AllByRecursion P (map (new_replica plan) names)
all_opened plan P h [] = tt
all_opened plan P h (n ∷ ns) = (h n, all_opened plan P h ns)

pub coupled_opened : (plan : AccountPlan) (names : List ℕ) → AreDistinct names → IsCoupled (new_machine names) (new_world plan names)
coupled_opened plan names apart = record {
  names = names_opened plan names;
  apart = subst AreDistinct (sym (names_opened plan names)) apart;
  shows = all_opened plan (λ v. Shows (new_machine names) v.name v) (λ n. record { name = refl; chains = λ o. refl }) names;
  replicas = all_opened plan IsReplica (replica_opened plan) names;
  plans = all_opened plan (λ v. v.plan ≡ plan) (λ n. refl) names;
  sent = tt;
  world = world_started names;
}

pub run_more : (m mid after : Machine) (steps : List Step) (replies : List Reply) (step : Step) (reply : Reply) → IsRun m steps replies mid → IsStep mid step reply after → IsRun m (steps ++ step ∷ []) (replies ++ reply ∷ []) after
run_more m mid after [] [] step reply run is = (after, subst (λ z. IsStep z step reply after) run is, refl)
run_more m mid after [] (r ∷ rs) step reply run is = absurd run
run_more m mid after (s ∷ ss) [] step reply run is = absurd run
run_more m mid after (s ∷ ss) (r ∷ rs) step reply run is = (run.0, run.1, run_more run.0 mid after ss rs step reply run.2 is)

-- a run to a world goes on by a step of any machine that this shows
pub runs_more : (m : Machine) (now after : WorldView) (steps : List Step) (replies : List Reply) (step : Step) (reply : Reply) → RunsTo m steps replies now → ((mid : Machine) → IsCoupled mid now → StepsTo mid step reply after) → RunsTo m (steps ++ step ∷ []) (replies ++ reply ∷ []) after
runs_more m now after steps replies step reply run next =
    let done = next run.0 run.2 in
    (done.0, run_more m run.0 done.0 steps replies step reply run.1 done.1, done.2)
