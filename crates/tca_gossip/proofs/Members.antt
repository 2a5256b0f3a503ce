-- What a replica's log holds, and what a take adds.
use Rattle.std.proofs.Common.{◌≡◌, ℕ, ◌≤◌, Bool, true, false, ◌||◌, cond, Option, Some, List, [], ◌∷◌, ◌==◌, length, take, slice_get, refl, sym, ap, ◌∙◌, subst, inl, inr}
use Rattle.std.specs.List.{list_any}
use Rattle.std.proofs.lemmas.Bool.{eqb-true, or_left, or_right, or_cases, false≢true}
use Rattle.tca_report.specs.report.Reports.{PacketReport, report_cmp}
use Rattle.tca_join.specs.Sets.{has, put}
use Rattle.tca_report.proofs.lemmas.report.Order.{report_total}
use Rattle.tca_join.proofs.Sets.{has-put}
use Rattle.tca_log.specs.declared.fault.LogFault.{LogFault}
use Rattle.tca_gossip.specs.Replicas.{ReplicaView, IsReplica, all_of, fresh_of, appended, append_one, with_origin}
use Rattle.tca_gossip.specs.Runs.{same_report}
use Rattle.tca_gossip.specs.Replicas.{taken as with_taken}
use Rattle.tca_gossip.specs.Machines.{Machine, IsWorld, Shows, held_prefix, is_name, took}
use Rattle.tca_gossip.proofs.Logs.{none_has, all_has, some_has, same_test}
use Rattle.tca_gossip.proofs.Takes.{replica_append}
use Rattle.tca_gossip.proofs.Appends.{appended_name, appended_plan}
use Rattle.tca_gossip.proofs.Worlds.{take_chain, take_none}
use Rattle.tca_gossip.proofs.WorldInvariants.{world_took, others_took}
use Rattle.tca_gossip.specs.Steps.{Take, Took, in_log, fresh_in}
use Rattle.tca_gossip.specs.Coupling.{WorldView, IsCoupled, with_replica, StepsTo}
use Rattle.tca_gossip.specs.Answers.{IsStopAt}
use Rattle.tca_gossip.proofs.Stops.{not_held, stop_with, stops_there}
use Rattle.tca_gossip.proofs.Places.{coupled_changes, shows_at, replica_at, is_there}

any_some : {A : Type 0} (p : A → Bool) (xs : List A) → list_any p xs ≡ true → (x : A) × (p x ≡ true)
any_some p [] e = absurd (false≢true e)
any_some p (x ∷ xs) e = elim (or_cases (p x) (list_any p xs) e) [
  | inl h ↦ (x, h)
  | inr h ↦ any_some p xs h
]

any_at : (p : ℕ → Bool) (xs : List ℕ) (n : ℕ) → list_any (λ k. k == n) xs ≡ true → p n ≡ true → list_any p xs ≡ true
any_at p [] n e h = absurd (false≢true e)
any_at p (x ∷ xs) n e h = elim (or_cases (x == n) (list_any (λ k. k == n) xs) e) [
  | inl is ↦ or_left (p x) (list_any p xs) (subst (λ k. p k ≡ true) (sym (eqb-true x n is)) h)
  | inr more ↦ or_right (p x) (list_any p xs) (any_at p xs n more h)
]

-- a replica's log holds just the arrivals that it holds of the replicas
pub log_is : (m : Machine) (n : ℕ) (v : ReplicaView) → IsWorld m → IsReplica v → Shows m n v → (q : PacketReport) → has report_cmp v.log q ≡ in_log m n q
log_is m n v world replica shows q =
    replica.same q
    ∙ same_test (has report_cmp (all_of v.chains) q) (in_log m n q)
    (λ e. let found = some_has v.chains q replica.rises e in
    let there : has report_cmp (held_prefix m n found.0) q ≡ true = subst (λ (l : List PacketReport). has report_cmp l q ≡ true) (shows.chains found.0) found.1 in
    elim (is_name m found.0) as (λ b. is_name m found.0 ≡ b → in_log m n q ≡ true) [
      | true ↦ λ named. any_at (λ o. has report_cmp (held_prefix m n o) q) m.names found.0 named there
      | false ↦ λ named. absurd (none_has q (subst (λ (l : List PacketReport). has report_cmp l q ≡ true) (ap (take (m.held n found.0)) (world.strangers found.0 named) ∙ take_none (m.held n found.0)) there))
    ] refl)
    (λ e. let found = any_some (λ o. has report_cmp (held_prefix m n o) q) m.names e in
    all_has v.chains found.0 q (subst (λ (l : List PacketReport). has report_cmp l q ≡ true) (sym (shows.chains found.0)) found.1))

pub fresh_is : (log : List PacketReport) (held : PacketReport → Bool) (rs : List PacketReport) → ((q : PacketReport) → has report_cmp log q ≡ held q) → fresh_of log rs ≡ fresh_in held rs
unfolding fresh_of fresh_in
fresh_is log held [] same = refl
fresh_is log held (r ∷ rs) same =
    (λ i. cond (same r i) (fresh_of log rs) (r ∷ fresh_of (put report_cmp r log) rs))
    ∙ (λ i. cond (held r) (fresh_is log held rs same i) (r ∷ fresh_is (put report_cmp r log) (λ q. same_report q r || held q) rs (λ q. has-put report_cmp report_total r log q ∙ ap (λ b. same_report q r || b) (same q)) i))

pub replica_appended : (v : ReplicaView) (ps : List (ℕ × PacketReport)) → IsReplica v → IsReplica (appended v ps)
unfolding appended
replica_appended v [] h = h
replica_appended v (p ∷ ps) h = replica_appended (append_one v p) ps (replica_append v p h)

-- a take is a step
pub take_step : (m : Machine) (w : WorldView) (i : ℕ) (v : ReplicaView) (reports : List PacketReport) (taken fresh : ℕ) (stop : Option LogFault) → IsCoupled m w → slice_get w.replicas i ≡ Some v
    → taken ≤ length reports → fresh ≡ length (fresh_of v.log (take taken reports)) → IsStopAt (with_taken v (take taken reports)).log reports taken stop
    → StepsTo m (Take v.name reports) (Took taken fresh stop) (with_replica w i (with_taken v (take taken reports)))
take_step m w i v reports taken fresh stop coupled at within count stops =
    let shows = shows_at m w i v coupled at in
    let replica = replica_at m w i v coupled at in
    let new : List PacketReport = fresh_of v.log (take taken reports) in
    let same : new ≡ fresh_in (in_log m v.name) (take taken reports) = fresh_is v.log (in_log m v.name) (take taken reports) (log_is m v.name v coupled.world replica shows) in
    let named = is_there m w i v coupled at in
    let u = with_taken v (take taken reports) in
    let u-is : IsReplica u = replica_appended v (with_origin v.name new) replica in
    let shown : Shows (took m v.name new) v.name u = record { name = appended_name v (with_origin v.name new); chains = λ o. take_chain m coupled.world v.name v new o shows replica.rises } in
    let held : (r : PacketReport) → has report_cmp u.log r ≡ in_log (took m v.name new) v.name r = log_is (took m v.name new) v.name u (world_took m v.name new named coupled.world) u-is shown in (
      took m v.name new,
      record {
        named = named;
        within = within;
        stop_is = stops_there u.log reports taken stop stops;
        fresh_is = count ∙ ap length same;
        after = ap (took m v.name) same;
        unheld = λ some r e. sym (held r) ∙ not_held u.log reports taken stop stops some r e;
        cause = stop_with u.log reports taken stop (in_log (took m v.name new) v.name) (record { rises = u-is.log_rises; same = held }) stops;
      },
      coupled_changes m (took m v.name new) w i v (with_taken v (take taken reports)) coupled at (appended_name v (with_origin v.name new)) (appended_plan v (with_origin v.name new)) refl refl (world_took m v.name new named coupled.world) u-is
          (λ o. take_chain m coupled.world v.name v new o shows replica.rises) (λ k o apart. others_took m v.name k o new coupled.world apart),
    )
