-- How the steps of a world end.
use Rattle.std.proofs.Common.{◌≡◌, ℕ, suc, zero, ◌<◌, ◌≤◌, Bool, true, false, ◌&&◌, ◌||◌, Option, None, Some, is_some, Result, Ok, Err, OnOk, OnErr, IfErr, List, [], ◌∷◌, ◌++◌, map, length, take, get_or, slice_get, slice_set, refl, sym, ap, ◌∙◌, subst, arith}
use Rattle.std.proofs.lemmas.Bool.{ne_eqb, lt-ltb, le-ltb, ltb-true, ltb-false}
use Rattle.std.proofs.lemmas.Option.{slice_get_read, get_or_from_slice_get}
use Rattle.tca_report.specs.report.Reports.{PacketReport, report_cmp}
use Rattle.tca_report.proofs.lemmas.report.Order.{report_total}
use Rattle.tca_join.specs.Sets.{has, in_order}
use Rattle.tca_join.proofs.Sets.{has-append, has-in_order, rises_in_order}
use Rattle.tca_join.specs.Faults.{IsJoinFault}
use Rattle.tca_join.specs.declared.fault.JoinFault.{JoinFault}
use Rattle.tca_log.specs.declared.fault.LogFault.{LogFault}
use Rattle.tca_join.specs.declared.fault.JoinFault.TheVariants.{Clash, Full, Memory}
use Rattle.tca_accounts.specs.Plans.{AccountPlan}
use Rattle.tca_gossip.specs.Replicas.{ReplicaView, chain_of, fresh_of, merged_with, merge_clash, merge_full}
use Rattle.tca_gossip.specs.Replicas.{taken as with_taken}
use Rattle.tca_gossip.specs.Runs.{RunView, AreRuns, Outcome, IsOutcome, absorbed, rests, summary_count, delta_of}
use Rattle.tca_gossip.specs.Answers.{IsCause, IsStopAt}
use Rattle.tca_gossip.specs.Machines.{Machine, Counts, Parts, is_name}
use Rattle.tca_gossip.specs.Machines.{Message as MachineMessage}
use Rattle.tca_gossip.specs.Steps.{Take, Ask, Answer, Deliver, Merge, Took, Sent, Absorbed, Merged, Nothing, NoMemory, Joined, Unjoined, AreTooMany, AreWithin, IsSetOf, can_send, counts_at, in_log, parts_at}
use Rattle.tca_gossip.specs.Coupling.{MessageView, Summary, Delta, WorldView, name_of, counts_of, ShowMessages, IsCoupled, StepsTo, with_replica, with_message}
use Rattle.tca_gossip.specs.declared.fault.Taken.{Taken}
use Rattle.tca_gossip.specs.declared.message.Message.{Message}
use Rattle.tca_gossip.specs.Worlds.{message_view, end_of, IsPlace, IsSending, OfBoth}
use Rattle.tca_gossip.proofs.Places.{is_there, shows_at, replica_at, message_at, ShowsOption}
use Rattle.tca_gossip.proofs.Members.{log_is, take_step}
use Rattle.tca_gossip.proofs.Answering.{ask_step, answer_step, counts_are}
use Rattle.tca_gossip.proofs.Arriving.{deliver_step}
use Rattle.tca_gossip.proofs.MergesInWorlds.{merge_step, merge_itself, no_clash}
use Rattle.tca_gossip.proofs.Finding.{replica_there}

-- messages by their numbers
pub message_there : (ms : List Message) (k : ℕ) (x : Message) → k < length ms → x ≡ get_or ms k x → slice_get (map message_view ms) k ≡ Some (message_view x)
message_there [] k x h is = absurd (omega arith)
message_there (y ∷ ms) zero x h is = ap (λ z. Some (message_view z)) (sym is)
message_there (y ∷ ms) (suc k) x h is = message_there ms k x (omega arith) is

pub no_message : (ms : List Message) (k : ℕ) → length ms ≤ k → slice_get (map message_view ms) k ≡ None
no_message [] k h = refl
no_message (y ∷ ms) zero h = absurd (omega arith)
no_message (y ∷ ms) (suc k) h = no_message ms k (omega arith)

length_map : (ms : List Message) → length (map message_view ms) ≡ length ms
length_map [] = refl
length_map (x ∷ ms) = ap suc (length_map ms)

-- a world's parts, seen through its fields
module _ (w : WorldView) (plan : AccountPlan) (rs : List ReplicaView) (ms : List Message) (view : record { plan = plan; replicas = rs; sent = map message_view ms } ≡ w) where
  pub sent_length : length w.sent ≡ length ms
  sent_length = ap (λ (z : WorldView). length z.sent) (sym view) ∙ length_map ms

  pub replica_seen : (i : ℕ) (v : ReplicaView) → v ≡ get_or rs i v → v ≡ get_or w.replicas i v
  replica_seen i v is = is ∙ ap (λ (z : WorldView). get_or z.replicas i v) view

  pub message_seen : (k : ℕ) → slice_get (map message_view ms) k ≡ slice_get w.sent k
  message_seen k = ap (λ (z : WorldView). slice_get z.sent k) view

as_many : (ms : List MachineMessage) (vs : List MessageView) → ShowMessages ms vs → length ms ≡ length vs
as_many [] [] h = refl
as_many [] (v ∷ vs) h = absurd h
as_many (m ∷ ms) [] h = absurd h
as_many (m ∷ ms) (v ∷ vs) h = ap suc (as_many ms vs h.1)

and_false : (b : Bool) → (b && false) ≡ false
and_false true = refl
and_false false = refl

name_is : (vs : List ReplicaView) (i n : ℕ) (v : ReplicaView) → slice_get vs i ≡ Some v → slice_get (map name_of vs) i ≡ Some n → v.name ≡ n
name_is [] i n v e f = absurd cc
name_is (x ∷ vs) zero n v e f = let is : x ≡ v = cc in let named : x.name ≡ n = cc in ap name_of (sym is) ∙ named
name_is (x ∷ vs) (suc i) n v e f = name_is vs i n v e f

pub place_seen : (w : WorldView) (n i : ℕ) → IsPlace w n (Some i) → (v : ReplicaView) × (v ≡ get_or w.replicas i v)
place_seen w n i place = let found = replica_there w.replicas i n place.1 in (found.0, sym (get_or_from_slice_get w.replicas i found.0 found.0 found.1))

module _ (w : WorldView) (m : Machine) (coupled : IsCoupled m w) where
  -- the steps that change nothing
  full : (n : ℕ) → 4294967295 ≤ length w.sent → can_send m n ≡ false
  full n h = rw (le-ltb (length m.sent) 4294967295 (omega (arith, h, as_many m.sent w.sent coupled.sent))) (and_false (is_name m n))

  pub ask_full : (n : ℕ) → 4294967295 ≤ length w.sent → StepsTo m (Ask n) Nothing w
  ask_full n h = (m, (full n h, refl), coupled)

  pub answer_full : (n k : ℕ) → 4294967295 ≤ length w.sent → StepsTo m (Answer n k) Nothing w
  answer_full n k h = (m, (rw (full n h) refl, refl), coupled)

  known : (k : ℕ) (view : Option MessageView) → slice_get w.sent k ≡ view → ShowsOption (slice_get m.sent k) view
  known k view e = subst (ShowsOption (slice_get m.sent k)) e (message_at m.sent w.sent k coupled.sent)

  has_counts : (k : ℕ) (said : List (ℕ × ℕ)) → slice_get w.sent k ≡ Some (Summary said) → is_some (counts_at (slice_get m.sent k)) ≡ true
  has_counts k said e = go (slice_get m.sent k) (known k (Some (Summary said)) e) where
    go : (o : Option MachineMessage) → ShowsOption o (Some (Summary said)) → is_some (counts_at o) ≡ true
    go None h = absurd h
    go (Some (Counts counts)) h = refl
    go (Some (Parts runs)) h = absurd h

  no_counts : (k : ℕ) (runs : List RunView) → slice_get w.sent k ≡ Some (Delta runs) → is_some (counts_at (slice_get m.sent k)) ≡ false
  no_counts k runs e = go (slice_get m.sent k) (known k (Some (Delta runs)) e) where
    go : (o : Option MachineMessage) → ShowsOption o (Some (Delta runs)) → is_some (counts_at o) ≡ false
    go None h = absurd h
    go (Some (Counts counts)) h = absurd h
    go (Some (Parts runs)) h = refl

  no_parts : (k : ℕ) (said : List (ℕ × ℕ)) → slice_get w.sent k ≡ Some (Summary said) → is_some (parts_at (slice_get m.sent k)) ≡ false
  no_parts k said e = go (slice_get m.sent k) (known k (Some (Summary said)) e) where
    go : (o : Option MachineMessage) → ShowsOption o (Some (Summary said)) → is_some (parts_at o) ≡ false
    go None h = absurd h
    go (Some (Counts counts)) h = refl
    go (Some (Parts runs)) h = absurd h

  neither : (k : ℕ) → slice_get w.sent k ≡ None → (is_some (counts_at (slice_get m.sent k)) ≡ false) × (is_some (parts_at (slice_get m.sent k)) ≡ false)
  neither k e = go (slice_get m.sent k) (known k None e) where
    go : (o : Option MachineMessage) → ShowsOption o None → (is_some (counts_at o) ≡ false) × (is_some (parts_at o) ≡ false)
    go None h = (refl, refl)
    go (Some x) h = absurd h

  pub answer_wrong : (n k : ℕ) (runs : List RunView) → slice_get w.sent k ≡ Some (Delta runs) → StepsTo m (Answer n k) Nothing w
  answer_wrong n k runs e = (m, (rw (no_counts k runs e) (and_false (can_send m n)), refl), coupled)

  pub answer_no_message : (n k : ℕ) → slice_get w.sent k ≡ None → StepsTo m (Answer n k) Nothing w
  answer_no_message n k e = (m, (rw ((neither k e).0) (and_false (can_send m n)), refl), coupled)

  pub deliver_wrong : (n k : ℕ) (said : List (ℕ × ℕ)) → slice_get w.sent k ≡ Some (Summary said) → StepsTo m (Deliver k n) Nothing w
  deliver_wrong n k said e = (m, (rw (no_parts k said e) (and_false (is_name m n)), refl), coupled)

  pub deliver_no_message : (n k : ℕ) → slice_get w.sent k ≡ None → StepsTo m (Deliver k n) Nothing w
  deliver_no_message n k e = (m, (rw ((neither k e).1) (and_false (is_name m n)), refl), coupled)

  -- the replica at a place
  module _ (i n : ℕ) (v : ReplicaView) (place : IsPlace w n (Some i)) (at : v ≡ get_or w.replicas i v) where
    there : slice_get w.replicas i ≡ Some v
    there = slice_get_read w.replicas (length w.replicas) i v refl place.0 at

    named : v.name ≡ n
    named = name_is w.replicas i n v there place.1

    is_here : is_name m n ≡ true
    is_here = subst (λ z. is_name m z ≡ true) named (is_there m w i v coupled there)

    room : length w.sent < 4294967295 → can_send m n ≡ true
    room h = rw (is_here, lt-ltb (length m.sent) 4294967295 (omega (arith, h, as_many m.sent w.sent coupled.sent))) refl

    pub take_ends : (u : ReplicaView) (reports : List PacketReport) (t : Taken) → t.taken ≤ length reports → u ≡ with_taken v (take t.taken reports) → t.fresh ≡ length (fresh_of v.log (take t.taken reports)) → IsStopAt u.log reports t.taken t.stop
        → StepsTo m (Take n reports) (Took t.taken t.fresh t.stop) (with_replica w i u)
    take_ends u reports t within same fresh stop =
        subst (λ z. StepsTo m (Take z reports) (Took t.taken t.fresh t.stop) (with_replica w i u)) named
        (subst (λ z. StepsTo m (Take v.name reports) (Took t.taken t.fresh t.stop) (with_replica w i z)) (sym same)
        (take_step m w i v reports t.taken t.fresh t.stop coupled there within fresh (subst (λ (z : ReplicaView). IsStopAt z.log reports t.taken t.stop) same stop)))

    pub ask_sent : (said : List (ℕ × ℕ)) (number : ℕ) (x : WorldView) → length w.sent < 4294967295 → said ≡ counts_of v.chains → IsSending w (Summary said) (Some number) x → StepsTo m (Ask n) (Sent number) x
    ask_sent said number x h said-is is =
        let can : can_send m v.name ≡ true = subst (λ z. can_send m z ≡ true) (sym named) (room h) in
        let count : length m.sent ≡ number = as_many m.sent w.sent coupled.sent ∙ sym is.0 in
        let says : (o : ℕ) → summary_count said o ≡ length (chain_of v o) = λ o. ap (λ s. summary_count s o) said-is ∙ counts_are v.chains o (replica_at m w i v coupled there).rises in
        subst (λ z. StepsTo m (Ask z) (Sent number) x) named
        (subst (λ z. StepsTo m (Ask v.name) (Sent z) x) count
        (subst (λ z. StepsTo m (Ask v.name) (Sent (length m.sent)) z) (sym is.1)
        (ask_step m w i v said coupled there can says)))

    pub ask_no_memory : (x : WorldView) → length w.sent < 4294967295 → x ≡ w → StepsTo m (Ask n) NoMemory x
    ask_no_memory x h is = (m, (room h, refl), subst (IsCoupled m) (sym is) coupled)

    pub answer_sent : (k : ℕ) (said : List (ℕ × ℕ)) (runs : List RunView) (number : ℕ) (x : WorldView) → length w.sent < 4294967295 → slice_get w.sent k ≡ Some (Summary said) → runs ≡ delta_of (summary_count said) v.chains → AreRuns runs → IsSending w (Delta runs) (Some number) x → StepsTo m (Answer n k) (Sent number) x
    answer_sent k said runs number x h e runs-is right is =
        let can : can_send m v.name ≡ true = subst (λ z. can_send m z ≡ true) (sym named) (room h) in
        let count : length m.sent ≡ number = as_many m.sent w.sent coupled.sent ∙ sym is.0 in
        let world : x ≡ with_message w (Delta (delta_of (summary_count said) v.chains)) = is.1 ∙ ap (λ z. with_message w (Delta z)) runs-is in
        subst (λ z. StepsTo m (Answer z k) (Sent number) x) named
        (subst (λ z. StepsTo m (Answer v.name k) (Sent z) x) count
        (subst (λ z. StepsTo m (Answer v.name k) (Sent (length m.sent)) z) (sym world)
        (answer_step m w i v k said coupled there e can (subst AreRuns runs-is right))))

    pub answer_no_memory : (k : ℕ) (said : List (ℕ × ℕ)) (x : WorldView) → length w.sent < 4294967295 → slice_get w.sent k ≡ Some (Summary said) → x ≡ w → StepsTo m (Answer n k) NoMemory x
    answer_no_memory k said x h e is = (m, (rw (room h, has_counts k said e) refl, refl), subst (IsCoupled m) (sym is) coupled)

    pub deliver_ends : (k : ℕ) (runs : List RunView) (u : ReplicaView) (outcome : Outcome) (cause : Option LogFault) → slice_get w.sent k ≡ Some (Delta runs) → u ≡ absorbed v runs outcome → IsOutcome v.name (chain_of v) runs outcome → IsCause u.log (rests (chain_of v) runs) outcome cause
        → StepsTo m (Deliver k n) (Absorbed outcome cause) (with_replica w i u)
    deliver_ends k runs u outcome cause e u-is is why =
        subst (λ z. StepsTo m (Deliver k z) (Absorbed outcome cause) (with_replica w i u)) named
        (subst (λ z. StepsTo m (Deliver k v.name) (Absorbed outcome cause) (with_replica w i z)) (sym u-is)
        (deliver_step m w i v k runs outcome cause coupled there e is (subst (λ (z : ReplicaView). IsCause z.log (rests (chain_of v) runs) outcome cause) u-is why)))

    pub merge_same : (k : ℕ) → n ≡ k → StepsTo m (Merge n k) (Merged Joined) w
    merge_same k same = subst (λ z. StepsTo m (Merge n z) (Merged Joined) w) same (merge_itself m w n coupled is_here)

  -- two replicas
  module _ (eq : PacketReport → PacketReport → Bool) (itself : (x : PacketReport) → eq x x ≡ true) (exact : (x y : PacketReport) → eq x y ≡ true → x ≡ y) (i j n k : ℕ) (v u : ReplicaView)
      (at : slice_get w.replicas i ≡ Some v) (other : slice_get w.replicas j ≡ Some u) (v-named : v.name ≡ n) (u-named : u.name ≡ k) (apart : n ≡ k → ⊥) where
    merge_joins : StepsTo m (Merge n k) (Merged Joined) (with_replica w i (merged_with v u))
    merge_joins =
        subst (λ z. StepsTo m (Merge n z) (Merged Joined) (with_replica w i (merged_with v u))) u-named
        (subst (λ z. StepsTo m (Merge z u.name) (Merged Joined) (with_replica w i (merged_with v u))) v-named
        (merge_step eq itself exact m w i j v u coupled at other (ne_eqb v.name u.name (λ e. apart (sym v-named ∙ e ∙ u-named)))))

    -- both together are the union of the logs
    held_by_both : IsSetOf (λ q. in_log m n q || in_log m k q) (in_order report_cmp (v.log ++ u.log))
    held_by_both =
        let v-held : (q : PacketReport) → has report_cmp v.log q ≡ in_log m n q = λ q. log_is m v.name v coupled.world (replica_at m w i v coupled at) (shows_at m w i v coupled at) q ∙ ap (λ z. in_log m z q) v-named in
        let u-held : (q : PacketReport) → has report_cmp u.log q ≡ in_log m k q = λ q. log_is m u.name u coupled.world (replica_at m w j u coupled other) (shows_at m w j u coupled other) q ∙ ap (λ z. in_log m z q) u-named in
        record {
          rises = rises_in_order report_cmp report_total (v.log ++ u.log);
          same = λ q. has-in_order report_cmp report_total (v.log ++ u.log) q ∙ has-append report_cmp report_total v.log u.log q ∙ (λ c. v-held q c || u-held q c);
        }

    too_many : merge_full v u ≡ true → AreTooMany (λ q. in_log m n q || in_log m k q)
    too_many h = (in_order report_cmp (v.log ++ u.log), held_by_both, ltb-true 4194304 (length (in_order report_cmp (v.log ++ u.log))) h)

    within : merge_full v u ≡ false → AreWithin (λ q. in_log m n q || in_log m k q)
    within h = (in_order report_cmp (v.log ++ u.log), held_by_both, ltb-false 4194304 (length (in_order report_cmp (v.log ++ u.log))) h)

    merge_refused : (fault : JoinFault) → IsJoinFault (merge_clash eq v u) (merge_full v u) fault → StepsTo m (Merge n k) (Merged (Unjoined fault)) w
    merge_refused (Clash key) h = let none : merge_clash eq v u ≡ None = no_clash eq itself m u.name v u coupled.world (shows_at m w i v coupled at) (shows_at m w j u coupled other) (replica_at m w j u coupled other).rises in absurd cc
    merge_refused Full h = (m, (both, (ne_eqb n k apart, refl, too_many h.1)), coupled) where
      both : (is_name m n && is_name m k) ≡ true
      both = rw (subst (λ z. is_name m z ≡ true) v-named (is_there m w i v coupled at), subst (λ z. is_name m z ≡ true) u-named (is_there m w j u coupled other)) refl
    merge_refused Memory h = (m, (both, (ne_eqb n k apart, refl, within h.1)), coupled) where
      both : (is_name m n && is_name m k) ≡ true
      both = rw (subst (λ z. is_name m z ≡ true) v-named (is_there m w i v coupled at), subst (λ z. is_name m z ≡ true) u-named (is_there m w j u coupled other)) refl

  -- and the merge of them
  pub merge_ends : {A : Type 0} (eq : PacketReport → PacketReport → Bool) → ((x : PacketReport) → eq x x ≡ true) → ((x y : PacketReport) → eq x y ≡ true → x ≡ y) → (i j n k : ℕ) → IsPlace w n (Some i) → IsPlace w k (Some j) → (n ≡ k → ⊥) → (vs : List ReplicaView) (result : Result A JoinFault)
      → OnOk result (OfBoth w.replicas i j (λ v u. vs ≡ slice_set w.replicas i (merged_with v u))) → OnErr result (vs ≡ w.replicas) → IfErr result (λ e. OfBoth w.replicas i j (λ v u. IsJoinFault (merge_clash eq v u) (merge_full v u) e))
      → StepsTo m (Merge n k) (Merged (end_of result)) (record { plan = w.plan; replicas = vs; sent = w.sent })
  merge_ends eq itself exact i j n k here there apart vs (Ok a) joins stays faults =
      let v = replica_there w.replicas i n here.1 in
      let u = replica_there w.replicas j k there.1 in
      subst (λ (l : List ReplicaView). StepsTo m (Merge n k) (Merged Joined) (record { plan = w.plan; replicas = l; sent = w.sent })) (sym (joins v.0 u.0 v.1 u.1))
      (merge_joins eq itself exact i j n k v.0 u.0 v.1 u.1 v.2 u.2 apart)
  merge_ends eq itself exact i j n k here there apart vs (Err fault) joins stays faults =
      let v = replica_there w.replicas i n here.1 in
      let u = replica_there w.replicas j k there.1 in
      subst (λ (l : List ReplicaView). StepsTo m (Merge n k) (Merged (Unjoined fault)) (record { plan = w.plan; replicas = l; sent = w.sent })) (sym stays)
      (merge_refused eq itself exact i j n k v.0 u.0 v.1 u.1 v.2 u.2 apart fault (faults v.0 u.0 v.1 u.1))
