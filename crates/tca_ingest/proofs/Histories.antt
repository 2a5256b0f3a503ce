-- A journal is the history of a replica: what that says of the replica, and that a right entry more keeps it so.
use Rattle.std.proofs.Common.{◌≡◌, ◌≢◌, ◌↔◌, ℕ, cond, Option, Result, List, [], ◌∷◌, ◌++◌, length, take, refl, sym, ap, ◌∙◌, subst}
use Rattle.std.proofs.lemmas.Bool.{eq-eqb, ne_eqb}
use Rattle.tca_report.specs.report.Reports.{PacketReport}
use Rattle.tca_log.specs.declared.fault.LogFault.{LogFault}
use Rattle.tca_accounts.specs.Plans.{AccountPlan}
use Rattle.tca_accounts.specs.Bills.{bill_of}
use Rattle.tca_accounts.specs.declared.bill.Bill.{Bill}
use Rattle.tca_gossip.specs.Replicas.{ReplicaView, IsReplica, new_replica, taken, chain_of, fresh_of}
use Rattle.tca_gossip.specs.Runs.{RunView, IsOutcome, absorbed, delta_of, rests, summary_count}
use Rattle.tca_gossip.specs.Coupling.{counts_of}
use Rattle.tca_gossip.specs.Answers.{IsStopAt, IsStopOf, outcome_of}
use Rattle.tca_gossip.specs.declared.fault.AbsorbFault.{AbsorbFault}
use Rattle.tca_ingest.specs.Entries.{EntryView, Took, Absorbed, Answered, Asked, Sent}
use Rattle.tca_ingest.specs.Journals.{Lists, no_lists, list_of, with_entry, lists_from, lists, own, part, after, IsSummary, IsAnswer, IsRight, AreRightFrom, after_entry, after_entries, IsHistory}
use Rattle.tca_ingest.proofs.Summaries.{summary_is, answer_is, only_summary, only_answer}
use Rattle.tca_ingest.proofs.Holdings.{Holds, holds_took, holds_absorbed, holds_all}
use Rattle.tca_ingest.proofs.Limits.{take_full, absorb_full}

entries_push : (v : ReplicaView) (journal : List EntryView) (e : EntryView) → after_entries v (journal ++ e ∷ []) ≡ after_entry (after_entries v journal) e
unfolding after_entries
entries_push v [] e = refl
entries_push v (x ∷ journal) e = entries_push (after_entry v x) journal e

pub lists_push : (name : ℕ) (l : Lists) (journal : List EntryView) (e : EntryView) → lists_from name l (journal ++ e ∷ []) ≡ with_entry name (lists_from name l journal) e
unfolding lists_from
lists_push name l [] e = refl
lists_push name l (x ∷ journal) e = lists_push name (with_entry name l x) journal e

right_push : (plan : AccountPlan) (name : ℕ) (l : Lists) (journal : List EntryView) (e : EntryView) → AreRightFrom plan name l journal → IsRight plan name (lists_from name l journal) e → AreRightFrom plan name l (journal ++ e ∷ [])
unfolding AreRightFrom lists_from
right_push plan name l [] e right new = (new, tt)
right_push plan name l (x ∷ journal) e right new = (right.0, right_push plan name (with_entry name l x) journal e right.1 new)

-- each entry of a right journal is right for those before it
pub right_at : (plan : AccountPlan) (name : ℕ) (l : Lists) (before rest : List EntryView) (e : EntryView) → AreRightFrom plan name l (before ++ e ∷ rest) → IsRight plan name (lists_from name l before) e
unfolding AreRightFrom lists_from
right_at plan name l [] rest e right = right.0
right_at plan name l (x ∷ before) rest e right = right_at plan name (with_entry name l x) before rest e right.1

pub history_new : (plan : AccountPlan) (name : ℕ) → IsHistory plan name (new_replica plan name) []
unfolding after_entries AreRightFrom
history_new plan name = record { made = refl; right = tt }

module _ (plan : AccountPlan) (name : ℕ) (v : ReplicaView) (journal : List EntryView) (h : IsHistory plan name v journal) where
  -- what it says of the replica
  holds : Holds plan name v (lists name journal)
  holds = subst (λ v. Holds plan name v (lists name journal)) (sym h.made) (holds_all plan name journal h.right)

  pub history_replica : IsReplica v
  history_replica = holds.replica

  pub history_name : v.name ≡ name
  history_name = holds.named

  pub history_plan : v.plan ≡ plan
  history_plan = holds.planned

  pub history_log : v.log ≡ after name journal
  history_log = holds.log

  pub history_own : chain_of v name ≡ own name journal
  history_own = holds.chains name ∙ ap (λ b. cond b (own name journal) (part name journal name)) (eq-eqb name name refl)

  pub history_part : (origin : ℕ) → origin ≢ name → chain_of v origin ≡ part name journal origin
  history_part origin apart = holds.chains origin ∙ ap (λ b. cond b (own name journal) (part name journal origin)) (ne_eqb origin name apart)

  pub history_bill : bill_of v.plan v.log ≡ bill_of plan (after name journal)
  history_bill = λ i. bill_of (holds.planned i) (holds.log i)

  -- the replica's summary and its delta are those of the lists
  summary_held : IsSummary (list_of name (lists name journal)) (counts_of v.chains)
  summary_held = subst (λ (f : ℕ → List PacketReport). IsSummary f (counts_of v.chains)) (λ i o. holds.chains o i) (summary_is v.chains holds.replica.rises)

  answer_held : (since : List (ℕ × ℕ)) → IsAnswer (list_of name (lists name journal)) since (delta_of (summary_count since) v.chains)
  answer_held since = subst (λ (f : ℕ → List PacketReport). IsAnswer f since (delta_of (summary_count since) v.chains)) (λ i o. holds.chains o i) (answer_is since v.chains holds.replica.rises)

  pub history_asked : (pass : ℕ) (summary : List (ℕ × ℕ)) → IsRight plan name (lists name journal) (Asked pass summary) ↔ (summary ≡ counts_of v.chains)
  history_asked pass summary = (
    (λ is. only_summary (list_of name (lists name journal)) summary (counts_of v.chains) is summary_held),
    (λ is. subst (IsSummary (list_of name (lists name journal))) (sym is) summary_held),
  )

  pub history_sent : (pass : ℕ) (since : List (ℕ × ℕ)) (delta : List RunView) → IsRight plan name (lists name journal) (Sent pass since delta) ↔ (delta ≡ delta_of (summary_count since) v.chains)
  history_sent pass since delta = (
    (λ is. only_answer (list_of name (lists name journal)) since delta (delta_of (summary_count since) v.chains) is (answer_held since)),
    (λ is. subst (IsAnswer (list_of name (lists name journal)) since) (sym is) (answer_held since)),
  )

  -- a right entry more
  history_push : (e : EntryView) → IsRight plan name (lists name journal) e → IsHistory plan name (after_entry v e) (journal ++ e ∷ [])
  history_push e right = record {
    made = ap (λ v. after_entry v e) h.made ∙ sym (entries_push (new_replica plan name) journal e);
    right = right_push plan name no_lists journal e h.right right;
  }

  pub push_took : (w : ReplicaView) (pass : ℕ) (reports : List PacketReport) (at fresh : ℕ) (stop : Option LogFault) → w ≡ taken v (take at reports) → fresh ≡ length (fresh_of v.log (take at reports)) → IsStopAt w.log reports at stop
      → IsHistory plan name w (journal ++ Took pass (take at reports) fresh stop ∷ [])
  push_took w pass reports at fresh stop made is stops =
      subst (λ u. IsHistory plan name u (journal ++ Took pass (take at reports) fresh stop ∷ [])) (sym made)
      (history_push (Took pass (take at reports) fresh stop)
      (is ∙ ap (λ log. length (fresh_of log (take at reports))) holds.log, λ full. ap length (sym (holds_took plan name v (lists name journal) (take at reports) holds).log) ∙ ap (λ (u : ReplicaView). length u.log) (sym made) ∙ take_full w.log reports at stop stops full))

  pub push_absorbed : (w : ReplicaView) (pass : ℕ) (runs : List RunView) (result : Result ℕ AbsorbFault) → w ≡ absorbed v runs (outcome_of result) → IsOutcome v.name (chain_of v) runs (outcome_of result) → IsStopOf w (rests (chain_of v) runs) result
      → IsHistory plan name w (journal ++ Absorbed pass runs result ∷ [])
  push_absorbed w pass runs result made is stops =
      let right : IsOutcome name (list_of name (lists name journal)) runs (outcome_of result) =
      subst (λ n. IsOutcome n (list_of name (lists name journal)) runs (outcome_of result)) holds.named (subst (λ (f : ℕ → List PacketReport). IsOutcome v.name f runs (outcome_of result)) (λ i o. holds.chains o i) is) in
      subst (λ u. IsHistory plan name u (journal ++ Absorbed pass runs result ∷ [])) (sym made)
      (history_push (Absorbed pass runs result)
      (right, λ full. ap length (sym (holds_absorbed plan name v (lists name journal) runs result holds right).log) ∙ ap (λ (u : ReplicaView). length u.log) (sym made) ∙ absorb_full v.name (chain_of v) runs w result is stops full))

  pub push_answered : (pass : ℕ) (bill : Bill) → bill ≡ bill_of v.plan v.log → IsHistory plan name v (journal ++ Answered pass bill ∷ [])
  push_answered pass bill is = history_push (Answered pass bill) (is ∙ history_bill)

  pub push_asked : (pass : ℕ) (summary : List (ℕ × ℕ)) → summary ≡ counts_of v.chains → IsHistory plan name v (journal ++ Asked pass summary ∷ [])
  push_asked pass summary is = history_push (Asked pass summary) ((history_asked pass summary).1 is)

  pub push_sent : (pass : ℕ) (since : List (ℕ × ℕ)) (delta : List RunView) → delta ≡ delta_of (summary_count since) v.chains → IsHistory plan name v (journal ++ Sent pass since delta ∷ [])
  push_sent pass since delta is = history_push (Sent pass since delta) ((history_sent pass since delta).1 is)
