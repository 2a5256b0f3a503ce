-- What a replica sends: its counts, and its answer to counts.
use Rattle.std.proofs.Common.{◌≡◌, ℕ, ◌+◌, ◌-◌, ◌<◌, ◌≤◌, true, false, cond, nat_lt, Option, None, Some, Result, Ok, Err, IfOk, List, [], ◌∷◌, ◌==◌, length, take, drop, slice_get, refl, sym, ap, ◌∙◌, subst, arith}
use Rattle.std.specs.List.{AllByRecursion}
use Rattle.std.proofs.lemmas.Bool.{eq-eqb, eqb-true, ltb-true, le-ltb}
use Rattle.tca_report.specs.report.Reports.{PacketReport}
use Rattle.tca_join.specs.Maps.{get, Rises}
use Rattle.tca_join.specs.laws.MapLaws.{not_there}
use Rattle.tca_gossip.specs.Replicas.{ReplicaView, IsReplica, chain_of, or_empty}
use Rattle.tca_gossip.specs.Runs.{RunView, AreRuns, summary_count, delta_of}
use Rattle.tca_gossip.specs.Machines.{Message, Counts, Parts, Machine, IsWorld, IsPart, IsSound, Shows, sends, run_between}
use Rattle.tca_gossip.proofs.Worlds.{prefix_length, length_drop, length_take, drop_front}
use Rattle.tca_gossip.proofs.WorldInvariants.{world_sends}
use Rattle.tca_gossip.specs.Steps.{Ask, Answer, Sent, run_of, answer_at, AreAnswer, can_send, counts_at, Answers}
use Rattle.tca_gossip.specs.Coupling.{MessageView, Summary, Delta, WorldView, ShowsMessage, IsCoupled, with_message, StepsTo, counts_of}
use Rattle.tca_gossip.proofs.Places.{shows_at, replica_at, messages_more, message_at, ShowsOption}

shows_sent : (m : Machine) (message : Message) (vs : List ReplicaView) → AllByRecursion (λ v. Shows m v.name v) vs → AllByRecursion (λ v. Shows (sends m message) v.name v) vs
shows_sent m message [] h = tt
shows_sent m message (v ∷ vs) h = (record { name = refl; chains = h.0.chains }, shows_sent m message vs h.1)

-- a message more
pub coupled_sends : (m : Machine) (w : WorldView) (message : Message) (view : MessageView) → IsCoupled m w → IsSound m message → ShowsMessage message view → IsCoupled (sends m message) (with_message w view)
coupled_sends m w message view coupled sound shown = record {
  names = coupled.names;
  apart = coupled.apart;
  shows = shows_sent m message w.replicas coupled.shows;
  replicas = coupled.replicas;
  plans = coupled.plans;
  sent = messages_more m.sent w.sent message view coupled.sent shown;
  world = world_sends m message coupled.world sound;
}

-- the lengths of the chains
count_here : (k : ℕ) (c : List PacketReport) (cs : List (ℕ × List PacketReport)) (o : ℕ) → o == k ≡ true → summary_count (counts_of cs) o ≡ 0 → summary_count (counts_of ((k, c) ∷ cs)) o ≡ length c
unfolding counts_of
count_here k [] cs o is none = none
count_here k (r ∷ rs) cs o is none = rw is refl

count_past : (k : ℕ) (c : List PacketReport) (cs : List (ℕ × List PacketReport)) (o : ℕ) → o == k ≡ false → summary_count (counts_of ((k, c) ∷ cs)) o ≡ summary_count (counts_of cs) o
unfolding counts_of
count_past k [] cs o is = refl
count_past k (r ∷ rs) cs o is = rw is refl

pub counts_are : (cs : List (ℕ × List PacketReport)) (o : ℕ) → Rises cs → summary_count (counts_of cs) o ≡ length (or_empty (get cs o))
unfolding counts_of
counts_are [] o rises = refl
counts_are (c ∷ cs) o rises = elim (o == c.0) as (λ b. o == c.0 ≡ b → summary_count (counts_of (c ∷ cs)) o ≡ length (or_empty (cond b (Some c.1) (get cs o)))) [
  | true ↦ λ is. count_here c.0 c.1 cs o is (counts_are cs o rises.1 ∙ ap (λ z. length (or_empty z)) (ap (get cs) (eqb-true o c.0 is) ∙ not_there cs c.0 rises.0))
  | false ↦ λ is. count_past c.0 c.1 cs o is ∙ counts_are cs o rises.1
] refl

-- so counts of the chains count each of them
pub counts_each : {E : Type 0} (cs : List (ℕ × List PacketReport)) (r : Result (List (ℕ × ℕ)) E) → Rises cs → IfOk r (λ s. s ≡ counts_of cs) → IfOk r (λ s. (o : ℕ) → summary_count s o ≡ length (or_empty (get cs o)))
counts_each cs (Ok s) rises is = λ o. ap (λ l. summary_count l o) is ∙ counts_are cs o rises
counts_each cs (Err e) rises is = tt

-- an ask is a step
pub ask_step : (m : Machine) (w : WorldView) (i : ℕ) (v : ReplicaView) (said : List (ℕ × ℕ)) → IsCoupled m w → slice_get w.replicas i ≡ Some v → can_send m v.name ≡ true → ((o : ℕ) → summary_count said o ≡ length (chain_of v o))
    → StepsTo m (Ask v.name) (Sent (length m.sent)) (with_message w (Summary said))
ask_step m w i v said coupled at can says =
    let shows = shows_at m w i v coupled at in (
      sends m (Counts (m.held v.name)),
      (can, refl, refl),
      coupled_sends m w (Counts (m.held v.name)) (Summary said) coupled tt (λ o. says o ∙ ap length (shows.chains o) ∙ prefix_length m coupled.world v.name o),
    )

-- of a replica's delta the run of an origin
rest_at : (ℕ → ℕ) → ℕ → List PacketReport → Option RunView
rest_at said o chain = cond (nat_lt (said o) (length chain)) (Some (record { origin = o; start = said o; reports = drop (said o) chain })) None

delta_at : (said : ℕ → ℕ) (cs : List (ℕ × List PacketReport)) (o : ℕ) → Rises cs → run_of (delta_of said cs) o ≡ rest_at said o (or_empty (get cs o))
unfolding delta_of rest_at
delta_at said [] o rises = rw (le-ltb (said o) 0 (omega arith)) refl
delta_at said (c ∷ cs) o rises = elim (o == c.0) as (λ b. o == c.0 ≡ b → run_of (cond (nat_lt (said c.0) (length c.1)) (record { origin = c.0; start = said c.0; reports = drop (said c.0) c.1 } ∷ delta_of said cs) (delta_of said cs)) o ≡ rest_at said o (or_empty (cond b (Some c.1) (get cs o)))) [
  | true ↦ λ is. let same : o ≡ c.0 = eqb-true o c.0 is in
      subst (λ z. run_of (cond (nat_lt (said c.0) (length c.1)) (record { origin = c.0; start = said c.0; reports = drop (said c.0) c.1 } ∷ delta_of said cs) (delta_of said cs)) z ≡ rest_at said z c.1) (sym same)
      (elim (nat_lt (said c.0) (length c.1)) as (λ t. run_of (cond t (record { origin = c.0; start = said c.0; reports = drop (said c.0) c.1 } ∷ delta_of said cs) (delta_of said cs)) c.0 ≡ cond t (Some (record { origin = c.0; start = said c.0; reports = drop (said c.0) c.1 })) None) [
        | true ↦ rw (eq-eqb c.0 c.0 refl) refl
        | false ↦ delta_at said cs c.0 rises.1 ∙ ap (λ z. rest_at said c.0 (or_empty z)) (not_there cs c.0 rises.0) ∙ rw (le-ltb (said c.0) 0 (omega arith)) refl
      ])
  | false ↦ λ is.
      elim (nat_lt (said c.0) (length c.1)) as (λ t. run_of (cond t (record { origin = c.0; start = said c.0; reports = drop (said c.0) c.1 } ∷ delta_of said cs) (delta_of said cs)) o ≡ run_of (delta_of said cs) o) [
        | true ↦ rw is refl
        | false ↦ refl
      ] ∙ delta_at said cs o rises.1
] refl

-- a replica's delta is the machine's answer
pub delta_answers : (m : Machine) (n : ℕ) (v : ReplicaView) (said counts : ℕ → ℕ) → IsWorld m → IsReplica v → Shows m n v → ((o : ℕ) → said o ≡ counts o) → AreRuns (delta_of said v.chains) → AreAnswer m n counts (delta_of said v.chains)
unfolding rest_at
delta_answers m n v said counts world replica shows same right = record {
  right = right;
  each = λ o. delta_at said v.chains o replica.rises ∙ at o;
} where
  at : (o : ℕ) → rest_at said o (chain_of v o) ≡ answer_at m n counts o
  at o =
      (λ i. cond (nat_lt (same o i) (length (shows.chains o i))) (Some (record { origin = o; start = same o i; reports = drop (same o i) (shows.chains o i) })) None)
      ∙ ap (λ l. cond (nat_lt (counts o) l) (Some (run_between m n (counts o) o)) None) (prefix_length m world n o)

-- the runs of an answer are parts of arrivals
none_above : (rs : List RunView) (o : ℕ) → AllByRecursion (λ next. o < next.origin) rs → run_of rs o ≡ None
none_above [] o h = refl
none_above (r ∷ rs) o h = elim (o == r.origin) as (λ b. o == r.origin ≡ b → cond b (Some r) (run_of rs o) ≡ None) [
  | true ↦ λ is. let same : o ≡ r.origin = eqb-true o r.origin is in absurd (omega (arith, h.0, same))
  | false ↦ λ is. none_above rs o h.1
] refl

pub all_runs : (P : RunView → Type 0) (rs : List RunView) → AreRuns rs → ((o : ℕ) (r : RunView) → run_of rs o ≡ Some r → P r) → AllByRecursion P rs
all_runs P [] right h = tt
all_runs P (r ∷ rs) right h = (h r.origin r (rw (eq-eqb r.origin r.origin refl) refl), all_runs P rs right.2 (λ o s e. h o s (skip o s e))) where
  skip : (o : ℕ) (s : RunView) → run_of rs o ≡ Some s → run_of (r ∷ rs) o ≡ Some s
  skip o s e = elim (o == r.origin) as (λ b. o == r.origin ≡ b → cond b (Some r) (run_of rs o) ≡ Some s) [
    | true ↦ λ is. let none : run_of rs o ≡ None = ap (run_of rs) (eqb-true o r.origin is) ∙ none_above rs r.origin right.1 in absurd cc
    | false ↦ λ is. e
  ] refl

between : (s h : ℕ) (xs : List PacketReport) → s < h → h ≤ length xs → (s + length (drop s (take h xs)) ≤ length xs) × (drop s (take h xs) ≡ take (length (drop s (take h xs))) (drop s xs))
between s h xs l w =
    let len : length (drop s (take h xs)) ≡ h - s = length_drop s (take h xs) ∙ ap (λ z. z - s) (length_take h xs w) in
    (omega (arith, len), drop_front h s xs ∙ ap (λ z. take z (drop s xs)) (sym len))

part_answered : (m : Machine) (n : ℕ) (counts : ℕ → ℕ) (o : ℕ) (r : RunView) → IsWorld m → answer_at m n counts o ≡ Some r → IsPart m r
part_answered m n counts o r world e = elim (nat_lt (counts o) (m.held n o)) as (λ b. nat_lt (counts o) (m.held n o) ≡ b → cond b (Some (run_between m n (counts o) o)) None ≡ Some r → IsPart m r) [
  | true ↦ λ is e. let same : run_between m n (counts o) o ≡ r = cc in subst (IsPart m) same (between (counts o) (m.held n o) (m.arrivals o) (ltb-true (counts o) (m.held n o) is) (world.within n o))
  | false ↦ λ is e. absurd cc
] refl e

pub answer_sound : (m : Machine) (n : ℕ) (counts : ℕ → ℕ) (runs : List RunView) → IsWorld m → AreAnswer m n counts runs → IsSound m (Parts runs)
answer_sound m n counts runs world answer = (answer.right, all_runs (IsPart m) runs answer.right (λ o r e. part_answered m n counts o r world (sym (answer.each o) ∙ e)))

-- an answer is a step
pub answer_step : (m : Machine) (w : WorldView) (i : ℕ) (v : ReplicaView) (number : ℕ) (said : List (ℕ × ℕ)) → IsCoupled m w → slice_get w.replicas i ≡ Some v → slice_get w.sent number ≡ Some (Summary said) → can_send m v.name ≡ true
    → AreRuns (delta_of (summary_count said) v.chains) → StepsTo m (Answer v.name number) (Sent (length m.sent)) (with_message w (Delta (delta_of (summary_count said) v.chains)))
answer_step m w i v number said coupled at there can right = found (slice_get m.sent number) (subst (ShowsOption (slice_get m.sent number)) there (message_at m.sent w.sent number coupled.sent)) refl where
  found : (message : Option Message) → ShowsOption message (Some (Summary said)) → slice_get m.sent number ≡ message → StepsTo m (Answer v.name number) (Sent (length m.sent)) (with_message w (Delta (delta_of (summary_count said) v.chains)))
  found None shown is = absurd shown
  found (Some (Parts runs)) shown is = absurd shown
  found (Some (Counts counts)) shown is =
      let runs : List RunView = delta_of (summary_count said) v.chains in
      let answer : AreAnswer m v.name counts runs = delta_answers m v.name v (summary_count said) counts coupled.world (replica_at m w i v coupled at) (shows_at m w i v coupled at) shown right in (
        sends m (Parts runs),
        (can, refl, subst (λ z. Answers m v.name (counts_at z) (sends m (Parts runs))) (sym is) (runs, answer, refl)),
        coupled_sends m w (Parts runs) (Delta runs) coupled (answer_sound m v.name counts runs coupled.world answer) refl,
      )
