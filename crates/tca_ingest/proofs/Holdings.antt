-- The replica that entries make holds what they list.
use Rattle.std.proofs.Common.{◌≡◌, ℕ, Bool, true, false, ◌||◌, cond, Result, List, [], ◌∷◌, ◌++◌, take, ◌==◌, refl, sym, ap, ◌∙◌, subst}
use Rattle.std.proofs.lemmas.List.{append-nil}
use Rattle.std.proofs.lemmas.Bool.{eqb-true, eqb-false, false≢true}
use Rattle.std.specs.Ordering.{eq_by_cmp, is_eq}
use Rattle.std.specs.declared.cmp.Ordering.{Ordering}
use Rattle.std.specs.declared.cmp.Ordering.TheVariants.{Less, Equal, Greater}
use Rattle.tca_report.specs.report.Reports.{PacketReport, report_cmp}
use Rattle.tca_report.proofs.lemmas.report.Order.{report_total, report_exact}
use Rattle.tca_join.specs.Sets.{has, put, in_order}
use Rattle.tca_join.proofs.Sets.{has-put, has-append, has-in_order, or_assoc}
use Rattle.tca_join.proofs.Merge.{in_order_alike}
use Rattle.tca_accounts.specs.Plans.{AccountPlan}
use Rattle.tca_gossip.specs.Replicas.{ReplicaView, IsReplica, appended, new_replica, chain_of, with_origin, fresh_of, of, reports_in}
use Rattle.tca_gossip.specs.Runs.{RunView, IsOutcome, rests, count_in}
use Rattle.tca_gossip.specs.Answers.{outcome_of}
use Rattle.tca_gossip.specs.declared.fault.AbsorbFault.{AbsorbFault}
use Rattle.tca_gossip.proofs.Appends.{appended_name, appended_plan, chain_appended, log_appended, of_append, of_tagged, of_other, reports_append, reports_tagged}
use Rattle.tca_gossip.proofs.Takes.{replica_opened}
use Rattle.tca_gossip.proofs.Members.{replica_appended}
use Rattle.tca_ingest.specs.Entries.{EntryView, Took, Absorbed, Answered, Asked, Sent}
use Rattle.tca_ingest.specs.Journals.{Lists, no_lists, set_of, list_of, gained_by, with_entry, lists_from, lists, IsRight, AreRightFrom, AreRight, after_entry, after_entries}
use Rattle.tca_ingest.proofs.Gains.{gained_own, gained_is}

-- a replica holds what lists say
pub record Holds (plan : AccountPlan) (name : ℕ) (v : ReplicaView) (l : Lists) : Type 0 where
  pub named : v.name ≡ name
  pub planned : v.plan ≡ plan
  pub replica : IsReplica v
  pub log : v.log ≡ set_of l
  pub chains : (origin : ℕ) → chain_of v origin ≡ list_of name l origin

pub equal_of : (o : Ordering) → is_eq o ≡ true → o ≡ Equal
equal_of Less e = absurd (false≢true e)
equal_of Equal e = refl
equal_of Greater e = absurd (false≢true e)

pub has_one : (r : PacketReport) (xs : List PacketReport) (q : PacketReport) → has report_cmp (r ∷ xs) q ≡ (eq_by_cmp report_cmp q r || has report_cmp xs q)
unfolding has
has_one r xs q = refl

-- a report that is in a set may as well be among others
pub known_more : (log rs : List PacketReport) (x q : PacketReport) → has report_cmp log x ≡ true → (has report_cmp log q || has report_cmp rs q) ≡ (has report_cmp log q || has report_cmp (x ∷ rs) q)
known_more log rs x q is =
    elim (eq_by_cmp report_cmp q x) as (λ e. eq_by_cmp report_cmp q x ≡ e → (has report_cmp log q || has report_cmp rs q) ≡ (has report_cmp log q || (e || has report_cmp rs q))) [
      | true ↦ λ e. let there : has report_cmp log q ≡ true = ap (has report_cmp log) (report_exact q x (equal_of (report_cmp q x) e)) ∙ is in
          ap (λ b. b || has report_cmp rs q) there ∙ sym (ap (λ b. b || true) there)
      | false ↦ λ e. refl
    ] refl
    ∙ ap (λ b. has report_cmp log q || b) (sym (has_one x rs q))

-- a set with those that are new at their turn, or with all
pub fresh_has : (log rs : List PacketReport) (q : PacketReport) → (has report_cmp log q || has report_cmp (fresh_of log rs) q) ≡ (has report_cmp log q || has report_cmp rs q)
unfolding fresh_of
fresh_has log [] q = refl
fresh_has log (r ∷ rs) q =
    elim (has report_cmp log r) as (λ b. has report_cmp log r ≡ b → (has report_cmp log q || has report_cmp (cond b (fresh_of log rs) (r ∷ fresh_of (put report_cmp r log) rs)) q) ≡ (has report_cmp log q || has report_cmp (r ∷ rs) q)) [
      | true ↦ λ is. fresh_has log rs q ∙ known_more log rs r q is
      | false ↦ λ is.
          ap (λ b. has report_cmp log q || b) (has_one r (fresh_of (put report_cmp r log) rs) q)
          ∙ turn (has report_cmp log q) (eq_by_cmp report_cmp q r) (has report_cmp (fresh_of (put report_cmp r log) rs) q)
          ∙ ap (λ b. b || has report_cmp (fresh_of (put report_cmp r log) rs) q) (sym (has-put report_cmp report_total r log q))
          ∙ fresh_has (put report_cmp r log) rs q
          ∙ ap (λ b. b || has report_cmp rs q) (has-put report_cmp report_total r log q)
          ∙ sym (turn (has report_cmp log q) (eq_by_cmp report_cmp q r) (has report_cmp rs q))
          ∙ ap (λ b. has report_cmp log q || b) (sym (has_one r rs q))
    ] refl where
      turn : (a b c : Bool) → (a || (b || c)) ≡ ((b || a) || c)
      turn true true c = refl
      turn true false c = refl
      turn false true c = refl
      turn false false c = refl

-- whether the set of lists has a report
pub has_after : (l : Lists) (q : PacketReport) → has report_cmp (set_of l) q ≡ (has report_cmp l.listed q || has report_cmp (reports_in l.gained) q)
has_after l q = has-in_order report_cmp report_total (l.listed ++ reports_in l.gained) q ∙ has-append report_cmp report_total l.listed (reports_in l.gained) q

-- the set after a take
log_took : (l : Lists) (reports : List PacketReport) → in_order report_cmp (set_of l ++ fresh_of (set_of l) reports) ≡ in_order report_cmp ((l.listed ++ reports) ++ reports_in l.gained)
log_took l reports = in_order_alike report_cmp report_total report_exact (set_of l ++ fresh_of (set_of l) reports) ((l.listed ++ reports) ++ reports_in l.gained) (λ q.
    has-append report_cmp report_total (set_of l) (fresh_of (set_of l) reports) q
    ∙ fresh_has (set_of l) reports q
    ∙ ap (λ b. b || has report_cmp reports q) (has_after l q)
    ∙ turn (has report_cmp l.listed q) (has report_cmp (reports_in l.gained) q) (has report_cmp reports q)
    ∙ ap (λ b. b || has report_cmp (reports_in l.gained) q) (sym (has-append report_cmp report_total l.listed reports q))
    ∙ sym (has-append report_cmp report_total (l.listed ++ reports) (reports_in l.gained) q)) where
      turn : (a b c : Bool) → ((a || b) || c) ≡ ((a || c) || b)
      turn true b c = refl
      turn false true true = refl
      turn false true false = refl
      turn false false true = refl
      turn false false false = refl

-- and after an absorb
log_absorbed : (l : Lists) (ps : List (ℕ × PacketReport)) → in_order report_cmp (set_of l ++ reports_in ps) ≡ in_order report_cmp (l.listed ++ reports_in (l.gained ++ ps))
log_absorbed l ps = in_order_alike report_cmp report_total report_exact (set_of l ++ reports_in ps) (l.listed ++ reports_in (l.gained ++ ps)) (λ q.
    has-append report_cmp report_total (set_of l) (reports_in ps) q
    ∙ ap (λ b. b || has report_cmp (reports_in ps) q) (has_after l q)
    ∙ or_assoc (has report_cmp l.listed q) (has report_cmp (reports_in l.gained) q) (has report_cmp (reports_in ps) q)
    ∙ ap (λ b. has report_cmp l.listed q || b) (sym (has-append report_cmp report_total (reports_in l.gained) (reports_in ps) q))
    ∙ ap (λ (xs : List PacketReport). has report_cmp l.listed q || has report_cmp xs q) (sym (reports_append l.gained ps))
    ∙ sym (has-append report_cmp report_total l.listed (reports_in (l.gained ++ ps)) q))

-- what a take appends, and what an absorb appends
pub holds_took : (plan : AccountPlan) (name : ℕ) (v : ReplicaView) (l : Lists) (reports : List PacketReport) → Holds plan name v l
    → Holds plan name (appended v (with_origin v.name (fresh_of v.log reports))) (record { listed = l.listed ++ reports; fresh = l.fresh ++ fresh_of (set_of l) reports; gained = l.gained })
holds_took plan name v l reports h =
    let ps = with_origin v.name (fresh_of v.log reports) in
    let new : ps ≡ with_origin name (fresh_of (set_of l) reports) = λ i. with_origin (h.named i) (fresh_of (h.log i) reports) in
    record {
      named = appended_name v ps ∙ h.named;
      planned = appended_plan v ps ∙ h.planned;
      replica = replica_appended v ps h.replica;
      log = log_appended v ps h.replica.log_rises
          ∙ (λ i. in_order report_cmp (h.log i ++ reports_in (new i)))
          ∙ ap (λ (xs : List PacketReport). in_order report_cmp (set_of l ++ xs)) (reports_tagged name (fresh_of (set_of l) reports))
          ∙ log_took l reports;
      chains = λ o.
          chain_appended v ps o h.replica.rises
          ∙ (λ i. h.chains o i ++ of o (new i))
          ∙ elim (o == name) as (λ b. o == name ≡ b → cond b l.fresh (of o l.gained) ++ of o (with_origin name (fresh_of (set_of l) reports)) ≡ cond b (l.fresh ++ fresh_of (set_of l) reports) (of o l.gained)) [
            | true ↦ λ is. ap (λ (xs : List PacketReport). l.fresh ++ xs) (subst (λ z. of z (with_origin name (fresh_of (set_of l) reports)) ≡ fresh_of (set_of l) reports) (sym (eqb-true o name is)) (of_tagged name (fresh_of (set_of l) reports)))
            | false ↦ λ is. ap (λ (xs : List PacketReport). of o l.gained ++ xs) (of_other o name (fresh_of (set_of l) reports) (eqb-false o name is)) ∙ append-nil (of o l.gained)
          ] refl;
    }

pub holds_absorbed : (plan : AccountPlan) (name : ℕ) (v : ReplicaView) (l : Lists) (runs : List RunView) (result : Result ℕ AbsorbFault) → Holds plan name v l → IsOutcome name (list_of name l) runs (outcome_of result)
    → Holds plan name (appended v (take (count_in (outcome_of result)) (rests (chain_of v) runs))) (record { listed = l.listed; fresh = l.fresh; gained = l.gained ++ gained_by result (rests (list_of name l) runs) })
holds_absorbed plan name v l runs result h right =
    let ps = take (count_in (outcome_of result)) (rests (chain_of v) runs) in
    let qs = gained_by result (rests (list_of name l) runs) in
    let new : ps ≡ qs = (λ i. take (count_in (outcome_of result)) (rests (λ o. h.chains o i) runs)) ∙ gained_is name (list_of name l) runs result right in
    record {
      named = appended_name v ps ∙ h.named;
      planned = appended_plan v ps ∙ h.planned;
      replica = replica_appended v ps h.replica;
      log = log_appended v ps h.replica.log_rises ∙ (λ i. in_order report_cmp (h.log i ++ reports_in (new i))) ∙ log_absorbed l qs;
      chains = λ o.
          chain_appended v ps o h.replica.rises
          ∙ (λ i. h.chains o i ++ of o (new i))
          ∙ elim (o == name) as (λ b. o == name ≡ b → cond b l.fresh (of o l.gained) ++ of o qs ≡ cond b l.fresh (of o (l.gained ++ qs))) [
            | true ↦ λ is. ap (λ (xs : List PacketReport). l.fresh ++ xs) (subst (λ z. of z qs ≡ []) (sym (eqb-true o name is)) (gained_own name (list_of name l) runs result right)) ∙ append-nil l.fresh
            | false ↦ λ is. sym (of_append o l.gained qs)
          ] refl;
    }

-- one right entry
holds_entry : (plan : AccountPlan) (name : ℕ) (v : ReplicaView) (l : Lists) (e : EntryView) → Holds plan name v l → IsRight plan name l e → Holds plan name (after_entry v e) (with_entry name l e)
holds_entry plan name v l (Took pass reports fresh stop) h right = holds_took plan name v l reports h
holds_entry plan name v l (Absorbed pass runs result) h right = holds_absorbed plan name v l runs result h right.0
holds_entry plan name v l (Answered pass bill) h right = h
holds_entry plan name v l (Asked pass summary) h right = h
holds_entry plan name v l (Sent pass since delta) h right = h

holds_from : (plan : AccountPlan) (name : ℕ) (v : ReplicaView) (l : Lists) (journal : List EntryView) → Holds plan name v l → AreRightFrom plan name l journal → Holds plan name (after_entries v journal) (lists_from name l journal)
unfolding after_entries lists_from AreRightFrom
holds_from plan name v l [] h right = h
holds_from plan name v l (e ∷ es) h right = holds_from plan name (after_entry v e) (with_entry name l e) es (holds_entry plan name v l e h right.0) right.1

holds_new : (plan : AccountPlan) (name : ℕ) → Holds plan name (new_replica plan name) no_lists
unfolding in_order reports_in of
holds_new plan name = record {
  named = refl;
  planned = refl;
  replica = replica_opened plan name;
  log = refl;
  chains = λ o. none_either (o == name);
} where
  none_either : (b : Bool) → let none : List PacketReport = [] in none ≡ cond b none none
  none_either true = refl
  none_either false = refl

-- the replica of a right journal
pub holds_all : (plan : AccountPlan) (name : ℕ) (journal : List EntryView) → AreRight plan name journal → Holds plan name (after_entries (new_replica plan name) journal) (lists name journal)
holds_all plan name journal right = holds_from plan name (new_replica plan name) no_lists journal (holds_new plan name) right
