-- What a delta that was sent does to a replica.
use Rattle.std.proofs.Common.{◌≡◌, ℕ, suc, zero, ◌+◌, ◌-◌, ◌<◌, ◌≤◌, min, max, true, false, ◌&&◌, cond, nat_lt, Option, None, Some, List, [], ◌∷◌, ◌++◌, ◌==◌, length, take, drop, slice_get, slice_set, refl, sym, ap, ◌∙◌, subst, arith, length-append}
use Rattle.std.specs.List.{AllByRecursion}
use Rattle.std.proofs.lemmas.Bool.{ne_eqb, eqb-true, eqb-false, ltb-false, le-ltb}
use Rattle.tca_report.specs.report.Reports.{PacketReport}
use Rattle.tca_log.specs.declared.fault.LogFault.{LogFault}
use Rattle.tca_join.specs.Chains.{differ_at}
use Rattle.tca_gossip.specs.Replicas.{ReplicaView, IsReplica, chain_of, appended, of, with_origin}
use Rattle.tca_gossip.specs.Runs.{RunView, AreRuns, Fault, OwnAhead, Gap, Forked, Outcome, Appended, Stopped, Refused, IsOutcome, absorbed, count_in, rests, rest_of, fault_of, first_fault, forked, or_else, same_report}
use Rattle.tca_gossip.specs.Machines.{Message, Counts, Parts, Machine, IsWorld, IsPart, IsSound, Shows, held_prefix, at_name, raised, IsGapFault}
use Rattle.tca_gossip.proofs.Worlds.{prefix_length, length_drop, part_within, no_fork, sent_fault}
use Rattle.tca_gossip.proofs.Sends.{gained, gained_within, absorb_chain}
use Rattle.tca_gossip.proofs.Appends.{of_append, of_tagged, of_other, appended_name, appended_plan}
use Rattle.tca_gossip.proofs.WorldInvariants.{world_raised, others_raised}
use Rattle.tca_gossip.specs.Steps.{Deliver, Absorbed, gap_at, first_gap, new_of, new_in, gain_of, end_at, reached, parts_at, in_log, Arrives, Delivers, HasCause, IsSetOf}
use Rattle.tca_gossip.specs.Answers.{IsCause}
use Rattle.tca_gossip.specs.Coupling.{Delta, WorldView, IsCoupled, with_replica, StepsTo}
use Rattle.tca_gossip.proofs.Places.{coupled_changes, shows_at, replica_at, is_there, message_at, ShowsOption, all_at, some_is}
use Rattle.tca_gossip.proofs.Members.{log_is, replica_appended}
use Rattle.tca_gossip.proofs.Stops.{has_cause}

-- a part is refused just as a gap
gap_is : (m : Machine) (world : IsWorld m) (n : ℕ) (r : RunView) → IsPart m r → fault_of n (held_prefix m n) r ≡ gap_at m n r
gap_is m world n r part =
    let len = prefix_length m world n r.origin in
    elim (r.origin == n) as (λ b. r.origin == n ≡ b → cond (b && nat_lt (length (held_prefix m n r.origin)) (r.start + length r.reports)) (Some (OwnAhead (length (held_prefix m n r.origin)) (r.start + length r.reports))) (cond (nat_lt (length (held_prefix m n r.origin)) r.start) (Some (Gap r.origin (length (held_prefix m n r.origin)) r.start)) (forked r.origin r.start (differ_at same_report (drop r.start (held_prefix m n r.origin)) r.reports))) ≡ gap_at m n r) [
      | true ↦ λ is. rw (le-ltb (length (held_prefix m n r.origin)) (r.start + length r.reports) (omega (arith, len, part_within m world n r part is))) no_other
      | false ↦ λ is. no_other
    ] refl where
      no_other : cond (nat_lt (length (held_prefix m n r.origin)) r.start) (Some (Gap r.origin (length (held_prefix m n r.origin)) r.start)) (forked r.origin r.start (differ_at same_report (drop r.start (held_prefix m n r.origin)) r.reports)) ≡ gap_at m n r
      no_other =
          ap (λ z. cond (nat_lt (length (held_prefix m n r.origin)) r.start) (Some (Gap r.origin (length (held_prefix m n r.origin)) r.start)) (forked r.origin r.start z)) (no_fork m n r part)
          ∙ ap (λ z. cond (nat_lt z r.start) (Some (Gap r.origin z r.start)) None) (prefix_length m world n r.origin)

gaps_are : (m : Machine) (world : IsWorld m) (n : ℕ) (runs : List RunView) → AllByRecursion (IsPart m) runs → first_fault n (held_prefix m n) runs ≡ first_gap m n runs
unfolding first_fault first_gap
gaps_are m world n [] parts = refl
gaps_are m world n (r ∷ rs) parts = λ i. or_else (gap_is m world n r parts.0 i) (gaps_are m world n rs parts.1 i)

none_else : (a b : Option Fault) → or_else a b ≡ None → (a ≡ None) × (b ≡ None)
none_else None b e = (refl, e)
none_else (Some f) b e = absurd cc

starts_within : (m : Machine) (n : ℕ) (r : RunView) → gap_at m n r ≡ None → r.start ≤ m.held n r.origin
starts_within m n r e = elim (nat_lt (m.held n r.origin) r.start) as (λ b. nat_lt (m.held n r.origin) r.start ≡ b → cond b (Some (Gap r.origin (m.held n r.origin) r.start)) None ≡ None → r.start ≤ m.held n r.origin) [
  | true ↦ λ is e. absurd cc
  | false ↦ λ is e. ltb-false (m.held n r.origin) r.start is
] refl e

length_tagged : (o : ℕ) (rs : List PacketReport) → length (with_origin o rs) ≡ length rs
unfolding with_origin
length_tagged o [] = refl
length_tagged o (r ∷ rs) = ap suc (length_tagged o rs)

new_is : (m : Machine) (world : IsWorld m) (n : ℕ) (r : RunView) → gap_at m n r ≡ None → length (with_origin r.origin (rest_of (held_prefix m n) r)) ≡ new_of m n r
new_is m world n r none = omega (arith, length_tagged r.origin (rest_of (held_prefix m n) r), length_drop (length (held_prefix m n r.origin) - r.start) r.reports, prefix_length m world n r.origin, starts_within m n r none)

pub all_new : (m : Machine) (world : IsWorld m) (n : ℕ) (runs : List RunView) → first_gap m n runs ≡ None → length (rests (held_prefix m n) runs) ≡ new_in m n runs
unfolding first_gap rests new_in
all_new m world n [] none = refl
all_new m world n (r ∷ rs) none =
    let nones = none_else (gap_at m n r) (first_gap m n rs) none in
    length-append (with_origin r.origin (rest_of (held_prefix m n) r)) (rests (held_prefix m n) rs) ∙ (λ i. new_is m world n r nones.0 i + all_new m world n rs nones.1 i)

-- the first of two lists
take_both : {A : Type 0} (k : ℕ) (xs ys : List A) → take k (xs ++ ys) ≡ take k xs ++ take (k - length xs) ys
take_both k [] ys = ap (λ n. take n ys) (less k) ∙ ap (λ l. l ++ take (k - 0) ys) (nothing k) where
  less : (k : ℕ) → k ≡ k - 0
  less k = omega arith

  nothing : {A : Type 0} (k : ℕ) → [] ≡ take {A = A} k []
  nothing zero = refl
  nothing (suc k) = refl
take_both zero (x ∷ xs) ys = ap (λ n. take n ys) (none (length (x ∷ xs))) where
  none : (n : ℕ) → 0 ≡ 0 - n
  none n = omega arith
take_both (suc k) (x ∷ xs) ys = ap (λ l. x ∷ l) (take_both k xs ys ∙ ap (λ n. take k xs ++ take n ys) (less k (length xs))) where
  less : (k n : ℕ) → k - n ≡ suc k - suc n
  less k n = omega arith

length_first : {A : Type 0} (k : ℕ) (xs : List A) → length (take k xs) ≡ min k (length xs)
length_first zero xs = omega arith
length_first (suc k) [] = omega arith
length_first (suc k) (x ∷ xs) = omega (arith, length_first k xs)

take_tagged : (k o : ℕ) (rs : List PacketReport) → take k (with_origin o rs) ≡ with_origin o (take k rs)
unfolding with_origin
take_tagged zero o rs = refl
take_tagged (suc k) o [] = refl
take_tagged (suc k) o (r ∷ rs) = ap (λ l. (o, r) ∷ l) (take_tagged k o rs)

one_gain : (m : Machine) (world : IsWorld m) (n : ℕ) (r : RunView) (count o : ℕ) → gap_at m n r ≡ None → length (of o (take count (with_origin r.origin (rest_of (held_prefix m n) r)))) ≡ cond (o == r.origin) (min count (new_of m n r)) 0
one_gain m world n r count o none =
    ap (λ l. length (of o l)) (take_tagged count r.origin (rest_of (held_prefix m n) r))
    ∙ elim (o == r.origin) as (λ b. o == r.origin ≡ b → length (of o (with_origin r.origin (take count (rest_of (held_prefix m n) r)))) ≡ cond b (min count (new_of m n r)) 0) [
      | true ↦ λ is. let same : o ≡ r.origin = eqb-true o r.origin is in
          ap (λ z. length (of z (with_origin r.origin (take count (rest_of (held_prefix m n) r))))) same
          ∙ ap length (of_tagged r.origin (take count (rest_of (held_prefix m n) r)))
          ∙ length_first count (rest_of (held_prefix m n) r)
          ∙ ap (min count) (sym (length_tagged r.origin (rest_of (held_prefix m n) r)) ∙ new_is m world n r none)
      | false ↦ λ is. ap length (of_other o r.origin (take count (rest_of (held_prefix m n) r)) (eqb-false o r.origin is))
    ] refl

-- what an absorb adds to each chain, by the numbers
pub gain_is : (m : Machine) (world : IsWorld m) (n : ℕ) (runs : List RunView) (count o : ℕ) → first_gap m n runs ≡ None → gained m n runs count o ≡ gain_of m n runs count o
unfolding first_gap rests gain_of of
gain_is m world n [] zero o none = refl
gain_is m world n [] (suc count) o none = refl
gain_is m world n (r ∷ rs) count o none =
    let nones = none_else (gap_at m n r) (first_gap m n rs) none in
    let mine : List (ℕ × PacketReport) = with_origin r.origin (rest_of (held_prefix m n) r) in
    ap (λ l. length (of o l)) (take_both count mine (rests (held_prefix m n) rs))
    ∙ ap length (of_append o (take count mine) (take (count - length mine) (rests (held_prefix m n) rs)))
    ∙ length-append (of o (take count mine)) (of o (take (count - length mine) (rests (held_prefix m n) rs)))
    ∙ (λ i. one_gain m world n r count o nones.0 i + length (of o (take (count - new_is m world n r nones.0 i) (rests (held_prefix m n) rs))))
    ∙ ap (λ z. cond (o == r.origin) (min count (new_of m n r)) 0 + z) (gain_is m world n rs (count - new_of m n r) o nones.1)

-- all that is new: each chain is held up to the end of its run
no_gain : (m : Machine) (n : ℕ) (runs : List RunView) (count o : ℕ) → AllByRecursion (λ next. o < next.origin) runs → (gain_of m n runs count o ≡ 0) × (end_at runs o ≡ 0)
unfolding gain_of end_at
no_gain m n [] count o above = (refl, refl)
no_gain m n (r ∷ rs) count o above =
    let rest = no_gain m n rs (count - new_of m n r) o above.1 in
    let apart : (o ≡ r.origin) → ⊥ = λ e. omega (arith, above.0, e) in
    rw (ne_eqb o r.origin apart) (omega (arith, rest.0), rest.1)

pub reach_is : (m : Machine) (n : ℕ) (runs : List RunView) (count o : ℕ) → AreRuns runs → new_in m n runs ≤ count → m.held n o + gain_of m n runs count o ≡ max (m.held n o) (end_at runs o)
unfolding gain_of end_at new_in
reach_is m n [] count o right enough = omega arith
reach_is m n (r ∷ rs) count o right enough = elim (o == r.origin) as (λ b. o == r.origin ≡ b → m.held n o + (cond b (min count (new_of m n r)) 0 + gain_of m n rs (count - new_of m n r) o) ≡ max (m.held n o) (cond b (r.start + length r.reports) (end_at rs o))) [
  | true ↦ λ is. let same : o ≡ r.origin = eqb-true o r.origin is in
      let none = (no_gain m n rs (count - new_of m n r) r.origin right.1).0 in
      subst (λ z. m.held n z + (min count (new_of m n r) + gain_of m n rs (count - new_of m n r) z) ≡ max (m.held n z) (r.start + length r.reports)) (sym same) (omega (arith, none, enough))
  | false ↦ λ is. omega (arith, reach_is m n rs (count - new_of m n r) o right.2 (omega (arith, enough)))
] refl

all_reached : (m : Machine) (n : ℕ) (runs : List RunView) (count : ℕ) → AreRuns runs → new_in m n runs ≤ count → raised m n (gain_of m n runs count) ≡ reached m n runs
all_reached m n runs count right enough = λ i. record { names = m.names; arrivals = m.arrivals; held = at_name n (λ o. reach_is m n runs count o right enough i) m.held; sent = m.sent }

pub set_same : {A : Type 0} (xs : List A) (i : ℕ) (x : A) → slice_get xs i ≡ Some x → slice_set xs i x ≡ xs
set_same [] i x e = refl
set_same (y ∷ ys) zero x e = ap (λ z. z ∷ ys) (sym (some_is y x e))
set_same (y ∷ ys) (suc i) x e = ap (λ l. y ∷ l) (set_same ys i x e)

pub unchanged : (w : WorldView) (i : ℕ) (v : ReplicaView) → slice_get w.replicas i ≡ Some v → with_replica w i (appended v []) ≡ w
unfolding appended
unchanged w i v at = λ j. record { plan = w.plan; replicas = set_same w.replicas i v at j; sent = w.sent }

-- parts that come to a replica
arrives : (m : Machine) (w : WorldView) (i : ℕ) (v : ReplicaView) (runs : List RunView) (outcome : Outcome) → IsCoupled m w → slice_get w.replicas i ≡ Some v → AreRuns runs → AllByRecursion (IsPart m) runs → IsOutcome v.name (held_prefix m v.name) runs outcome
    → (after : Machine) × Arrives m v.name runs outcome after × IsCoupled after (with_replica w i (absorbed v runs outcome))
arrives m w i v runs outcome coupled at right parts = ends outcome where
  world : IsWorld m
  world = coupled.world

  gap : first_fault v.name (held_prefix m v.name) runs ≡ first_gap m v.name runs
  gap = gaps_are m world v.name runs parts

  -- the first count of them were appended
  went : (count : ℕ) → first_fault v.name (held_prefix m v.name) runs ≡ None → IsCoupled (raised m v.name (gain_of m v.name runs count)) (with_replica w i (appended v (take count (rests (chain_of v) runs))))
  went count none =
      let gains : gained m v.name runs count ≡ gain_of m v.name runs count = λ j o. gain_is m world v.name runs count o (sym gap ∙ none) j in
      subst (λ (f : ℕ → ℕ). IsCoupled (raised m v.name f) (with_replica w i (appended v (take count (rests (chain_of v) runs))))) gains
      (coupled_changes m (raised m v.name (gained m v.name runs count)) w i v (appended v (take count (rests (chain_of v) runs))) coupled at (appended_name v (take count (rests (chain_of v) runs))) (appended_plan v (take count (rests (chain_of v) runs))) refl refl
      (world_raised m v.name (gained m v.name runs count) world (λ o. gained_within m world v.name runs count o right parts none))
      (replica_appended v (take count (rests (chain_of v) runs)) (replica_at m w i v coupled at))
      (λ o. absorb_chain m world v.name v runs count o (shows_at m w i v coupled at) (replica_at m w i v coupled at).rises right parts none)
      (λ k o apart. others_raised m v.name k o (gained m v.name runs count) apart))

  ends : (outcome : Outcome) → IsOutcome v.name (held_prefix m v.name) runs outcome → (after : Machine) × Arrives m v.name runs outcome after × IsCoupled after (with_replica w i (absorbed v runs outcome))
  ends (Appended count) is =
      let none : first_gap m v.name runs ≡ None = sym gap ∙ is.0 in
      let all : count ≡ new_in m v.name runs = is.1 ∙ all_new m world v.name runs none in
      (raised m v.name (gain_of m v.name runs count), (none, all, all_reached m v.name runs count right (omega (arith, all))), went count is.0)
  ends (Stopped count) is =
      let none : first_gap m v.name runs ≡ None = sym gap ∙ is.0 in
      (raised m v.name (gain_of m v.name runs count), (none, omega (arith, is.1, all_new m world v.name runs none), refl), went count is.0)
  ends (Refused fault) is = refused fault (sym gap ∙ is) where
    refused : (fault : Fault) → first_gap m v.name runs ≡ Some fault → (after : Machine) × Arrives m v.name runs (Refused fault) after × IsCoupled after (with_replica w i (absorbed v runs (Refused fault)))
    refused (Gap origin have from) is = (m, (is, refl), subst (IsCoupled m) (sym (unchanged w i v at)) coupled)
    refused (OwnAhead have said) is = absurd (subst IsGapFault (gap ∙ is) (sent_fault m world v.name runs parts))
    refused (Forked origin at) is = absurd (subst IsGapFault (gap ∙ is) (sent_fault m world v.name runs parts))

set_there : {A : Type 0} (xs : List A) (i : ℕ) (x y : A) → slice_get xs i ≡ Some x → slice_get (slice_set xs i y) i ≡ Some y
set_there [] i x y e = absurd cc
set_there (z ∷ zs) zero x y e = refl
set_there (z ∷ zs) (suc i) x y e = set_there zs i x y e

-- the log of a replica in a world is the set of what is held
held_set : (m : Machine) (w : WorldView) (i n : ℕ) (u : ReplicaView) → IsCoupled m w → slice_get w.replicas i ≡ Some u → u.name ≡ n → IsSetOf (in_log m n) u.log
held_set m w i n u coupled at named =
    let replica : IsReplica u = replica_at m w i u coupled at in
    record {
      rises = replica.log_rises;
      same = λ q. log_is m u.name u coupled.world replica (shows_at m w i u coupled at) q ∙ ap (λ k. in_log m k q) named;
    }

-- the cause of an absorb, in the world after it
caused : (m after : Machine) (w : WorldView) (i : ℕ) (v : ReplicaView) (runs : List RunView) (outcome : Outcome) (cause : Option LogFault) → IsCoupled m w → slice_get w.replicas i ≡ Some v → IsCoupled after (with_replica w i (absorbed v runs outcome))
    → IsCause (absorbed v runs outcome).log (rests (chain_of v) runs) outcome cause → HasCause (in_log after v.name) (rests (held_prefix m v.name) runs) outcome cause
caused m after w i v runs outcome cause coupled at changed is =
    let u : ReplicaView = absorbed v runs outcome in
    let shows = shows_at m w i v coupled at in
    let held : IsSetOf (in_log after v.name) u.log = held_set after (with_replica w i u) i v.name u changed (set_there w.replicas i v u at) (appended_name v (take (count_in outcome) (rests (chain_of v) runs))) in
    subst (λ (h : ℕ → List PacketReport). HasCause (in_log after v.name) (rests h runs) outcome cause) (λ j o. shows.chains o j)
    (has_cause u.log (in_log after v.name) (rests (chain_of v) runs) outcome cause held is)

-- a delivery is a step
pub deliver_step : (m : Machine) (w : WorldView) (i : ℕ) (v : ReplicaView) (number : ℕ) (runs : List RunView) (outcome : Outcome) (cause : Option LogFault) → IsCoupled m w → slice_get w.replicas i ≡ Some v → slice_get w.sent number ≡ Some (Delta runs)
    → IsOutcome v.name (chain_of v) runs outcome → IsCause (absorbed v runs outcome).log (rests (chain_of v) runs) outcome cause → StepsTo m (Deliver number v.name) (Absorbed outcome cause) (with_replica w i (absorbed v runs outcome))
deliver_step m w i v number runs outcome cause coupled at there is why = found (slice_get m.sent number) (subst (ShowsOption (slice_get m.sent number)) there (message_at m.sent w.sent number coupled.sent)) refl where
  found : (message : Option Message) → ShowsOption message (Some (Delta runs)) → slice_get m.sent number ≡ message → StepsTo m (Deliver number v.name) (Absorbed outcome cause) (with_replica w i (absorbed v runs outcome))
  found None shown known = absurd shown
  found (Some (Counts counts)) shown known = absurd shown
  found (Some (Parts same)) shown known =
      let sound : IsSound m (Parts runs) = subst (λ rs. IsSound m (Parts rs)) (sym shown) (all_at (IsSound m) m.sent number (Parts same) coupled.world.sound known) in
      let there : slice_get m.sent number ≡ Some (Parts runs) = known ∙ ap (λ rs. Some (Parts rs)) (sym shown) in
      let shows = shows_at m w i v coupled at in
      let ended = arrives m w i v runs outcome coupled at sound.0 sound.1 (subst (λ (h : ℕ → List PacketReport). IsOutcome v.name h runs outcome) (λ j o. shows.chains o j) is) in
      (ended.0, (is_there m w i v coupled at, subst (λ z. Delivers m v.name (parts_at z) outcome cause ended.0) (sym there) (ended.1, caused m ended.0 w i v runs outcome cause coupled at ended.2 why)), ended.2)

-- no absorb of what was sent is forked or ahead
pub only_gaps : (m : Machine) (n : ℕ) (v : ReplicaView) (runs : List RunView) → IsWorld m → Shows m n v → AllByRecursion (IsPart m) runs → IsGapFault (first_fault n (chain_of v) runs)
only_gaps m n v runs world shows parts = subst (λ (h : ℕ → List PacketReport). IsGapFault (first_fault n h runs)) (λ j o. sym (shows.chains o) j) (sent_fault m world n runs parts)
