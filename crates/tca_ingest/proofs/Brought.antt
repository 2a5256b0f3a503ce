-- What a journal lists has all that one of its passes brought, and each report of it is in the list of some origin.
use Rattle.std.proofs.Common.{◌≡◌, ◌⊎◌, ◌≤◌, ℕ, Bool, true, false, cond, nat_lt, None, Some, List, [], ◌∷◌, ◌++◌, ◌==◌, length, take, drop, refl, sym, ap, ◌∙◌, subst, arith, inl, inr}
use Rattle.std.proofs.lemmas.List.{drop_all, take-append-drop}
use Rattle.std.proofs.lemmas.Bool.{ltb-false, or_left, or_right, or_cases}
use Rattle.tca_report.specs.report.Reports.{PacketReport, report_cmp}
use Rattle.tca_report.proofs.lemmas.report.Order.{report_total}
use Rattle.tca_join.specs.Sets.{has}
use Rattle.tca_join.specs.Maps.{get}
use Rattle.tca_join.proofs.Sets.{has-append}
use Rattle.tca_accounts.specs.Plans.{AccountPlan}
use Rattle.tca_gossip.specs.Replicas.{reports_in, new_replica}
use Rattle.tca_gossip.specs.Runs.{RunView, or_zero, rests, summary_count}
use Rattle.tca_gossip.proofs.Appends.{reports_append}
use Rattle.tca_gossip.proofs.Logs.{none_has, some_has}
use Rattle.tca_ingest.specs.Entries.{EntryView, Took, Absorbed, Answered, Asked, Sent, pass_of}
use Rattle.tca_ingest.specs.Journals.{Lists, no_lists, set_of, list_of, gained_by, with_entry, lists_from, lists, after, above_zero, by_origin, brought_by, brought_from, brought, run_past, IsAnswer, IsSummary, AreRightFrom, AreRight, after_entries}
use Rattle.tca_ingest.specs.Passes.{reports_of}
use Rattle.tca_ingest.proofs.Holdings.{has_after, holds_all}

-- a report is listed by a take or appended by an absorb
listed_has : (l : Lists) (q : PacketReport) → has report_cmp l.listed q ≡ true → has report_cmp (set_of l) q ≡ true
listed_has l q h = has_after l q ∙ or_left (has report_cmp l.listed q) (has report_cmp (reports_in l.gained) q) h

gained_has : (l : Lists) (q : PacketReport) → has report_cmp (reports_in l.gained) q ≡ true → has report_cmp (set_of l) q ≡ true
gained_has l q h = has_after l q ∙ or_right (has report_cmp l.listed q) (has report_cmp (reports_in l.gained) q) h

-- a list has what its parts have
first_has : (xs ys : List PacketReport) (q : PacketReport) → has report_cmp xs q ≡ true → has report_cmp (xs ++ ys) q ≡ true
first_has xs ys q h = has-append report_cmp report_total xs ys q ∙ or_left (has report_cmp xs q) (has report_cmp ys q) h

second_has : (xs ys : List PacketReport) (q : PacketReport) → has report_cmp ys q ≡ true → has report_cmp (xs ++ ys) q ≡ true
second_has xs ys q h = has-append report_cmp report_total xs ys q ∙ or_right (has report_cmp xs q) (has report_cmp ys q) h

either_has : (xs ys : List PacketReport) (q : PacketReport) → has report_cmp (xs ++ ys) q ≡ true → (has report_cmp xs q ≡ true) ⊎ (has report_cmp ys q ≡ true)
either_has xs ys q h = or_cases (has report_cmp xs q) (has report_cmp ys q) (sym (has-append report_cmp report_total xs ys q) ∙ h)

-- an entry more takes nothing away
entry_keeps : (name : ℕ) (l : Lists) (e : EntryView) (q : PacketReport) → has report_cmp (set_of l) q ≡ true → has report_cmp (set_of (with_entry name l e)) q ≡ true
entry_keeps name l (Took pass reports fresh stop) q h =
    elim (or_cases (has report_cmp l.listed q) (has report_cmp (reports_in l.gained) q) (sym (has_after l q) ∙ h)) [
      | inl a ↦ listed_has (with_entry name l (Took pass reports fresh stop)) q (first_has l.listed reports q a)
      | inr a ↦ gained_has (with_entry name l (Took pass reports fresh stop)) q a
    ]
entry_keeps name l (Absorbed pass runs result) q h =
    elim (or_cases (has report_cmp l.listed q) (has report_cmp (reports_in l.gained) q) (sym (has_after l q) ∙ h)) [
      | inl a ↦ listed_has (with_entry name l (Absorbed pass runs result)) q a
      | inr a ↦ gained_has (with_entry name l (Absorbed pass runs result)) q
          (ap (λ (rs : List PacketReport). has report_cmp rs q) (reports_append l.gained (gained_by result (rests (list_of name l) runs))) ∙ first_has (reports_in l.gained) (reports_in (gained_by result (rests (list_of name l) runs))) q a)
    ]
entry_keeps name l (Answered pass bill) q h = h
entry_keeps name l (Asked pass summary) q h = h
entry_keeps name l (Sent pass since delta) q h = h

entries_keep : (name : ℕ) (l : Lists) (es : List EntryView) (q : PacketReport) → has report_cmp (set_of l) q ≡ true → has report_cmp (set_of (lists_from name l es)) q ≡ true
unfolding lists_from
entries_keep name l [] q h = h
entries_keep name l (e ∷ es) q h = entries_keep name (with_entry name l e) es q (entry_keeps name l e q h)

-- what an entry brings is there after it
entry_brings : (name : ℕ) (l : Lists) (e : EntryView) (q : PacketReport) → has report_cmp (brought_by name l e) q ≡ true → has report_cmp (set_of (with_entry name l e)) q ≡ true
entry_brings name l (Took pass reports fresh stop) q h = listed_has (with_entry name l (Took pass reports fresh stop)) q (second_has l.listed reports q h)
entry_brings name l (Absorbed pass runs result) q h =
    gained_has (with_entry name l (Absorbed pass runs result)) q
    (ap (λ (rs : List PacketReport). has report_cmp rs q) (reports_append l.gained (gained_by result (rests (list_of name l) runs))) ∙ second_has (reports_in l.gained) (reports_in (gained_by result (rests (list_of name l) runs))) q h)
entry_brings name l (Answered pass bill) q h = absurd (none_has q h)
entry_brings name l (Asked pass summary) q h = absurd (none_has q h)
entry_brings name l (Sent pass since delta) q h = absurd (none_has q h)

-- what a test keeps is there
kept_has : (b : Bool) (xs : List PacketReport) (q : PacketReport) → has report_cmp (cond b xs []) q ≡ true → has report_cmp xs q ≡ true
kept_has true xs q h = h
kept_has false xs q h = absurd (none_has q h)

brought_there : (name number : ℕ) (l : Lists) (es : List EntryView) (q : PacketReport) → has report_cmp (brought_from name number l es) q ≡ true → has report_cmp (set_of (lists_from name l es)) q ≡ true
unfolding brought_from lists_from
brought_there name number l [] q h = absurd (none_has q h)
brought_there name number l (e ∷ es) q h =
    elim (either_has (cond (pass_of e == number) (brought_by name l e) []) (brought_from name number (with_entry name l e) es) q h) [
      | inl a ↦ entries_keep name (with_entry name l e) es q (entry_brings name l e q (kept_has (pass_of e == number) (brought_by name l e) q a))
      | inr a ↦ brought_there name number (with_entry name l e) es q a
    ]

pub brought_held : (name number : ℕ) (journal : List EntryView) (q : PacketReport) → has report_cmp (brought name number journal) q ≡ true → has report_cmp (after name journal) q ≡ true
brought_held name number journal q h = brought_there name number no_lists journal q h

-- the front of a right journal is right
pub right_front : (plan : AccountPlan) (name : ℕ) (l : Lists) (before rest : List EntryView) → AreRightFrom plan name l (before ++ rest) → AreRightFrom plan name l before
unfolding AreRightFrom
right_front plan name l [] rest right = tt
right_front plan name l (e ∷ before) rest right = (right.0, right_front plan name (with_entry name l e) before rest right.1)

-- each report is in the list of some origin
pub listed_somewhere : (plan : AccountPlan) (name : ℕ) (journal : List EntryView) → AreRight plan name journal → (q : PacketReport) → has report_cmp (after name journal) q ≡ true → (origin : ℕ) × (has report_cmp (list_of name (lists name journal) origin) q ≡ true)
listed_somewhere plan name journal right q h =
    let holds = holds_all plan name journal right in
    let v = after_entries (new_replica plan name) journal in
    let found = some_has v.chains q holds.replica.rises (sym (holds.replica.same q) ∙ ap (λ (log : List PacketReport). has report_cmp log q) holds.log ∙ h) in
    (found.0, ap (λ (chain : List PacketReport). has report_cmp chain q) (sym (holds.chains found.0)) ∙ found.1)

-- what a summary says of a list
counted : (n : ℕ) → or_zero (above_zero n) ≡ n
counted n = elim (nat_lt 0 n) as (λ b. nat_lt 0 n ≡ b → or_zero (cond b (Some n) None) ≡ n) [
  | true ↦ λ is. refl
  | false ↦ λ is. nothing n (ltb-false 0 n is)
] refl where
  nothing : (m : ℕ) → m ≤ 0 → 0 ≡ m
  nothing m low = omega (arith, low)

pub counts_lists : (held : ℕ → List PacketReport) (summary : List (ℕ × ℕ)) → IsSummary held summary → (origin : ℕ) → summary_count summary origin ≡ length (held origin)
counts_lists held summary is origin = ap or_zero (is.each origin) ∙ counted (length (held origin))

-- a list is what is counted of it, and the run past that
past_has : (origin count : ℕ) (list : List PacketReport) (q : PacketReport) → has report_cmp (drop count list) q ≡ true → has report_cmp (reports_of (run_past origin count list)) q ≡ true
past_has origin count list q h = elim (nat_lt count (length list)) as (λ b. nat_lt count (length list) ≡ b → has report_cmp (reports_of (cond b (Some (record { origin = origin; start = count; reports = drop count list })) None)) q ≡ true) [
  | true ↦ λ is. h
  | false ↦ λ is. absurd (none_has q (subst (λ (rs : List PacketReport). has report_cmp rs q ≡ true) (drop_all count list (ltb-false count (length list) is)) h))
] refl

parts_have : (count : ℕ) (list : List PacketReport) (q : PacketReport) → has report_cmp list q ≡ true → (has report_cmp (take count list) q ≡ true) ⊎ (has report_cmp (drop count list) q ≡ true)
parts_have count list q h = either_has (take count list) (drop count list) q (ap (λ (rs : List PacketReport). has report_cmp rs q) (take-append-drop count list) ∙ h)

pub told : (held : ℕ → List PacketReport) (since : List (ℕ × ℕ)) (delta : List RunView) → IsAnswer held since delta → (origin : ℕ) (q : PacketReport) → has report_cmp (held origin) q ≡ true
    → (has report_cmp (take (summary_count since origin) (held origin)) q ≡ true) ⊎ (has report_cmp (reports_of (get (by_origin delta) origin)) q ≡ true)
told held since delta is origin q h = elim (parts_have (summary_count since origin) (held origin) q h) [
  | inl a ↦ inl a
  | inr a ↦ inr (ap (λ o. has report_cmp (reports_of o) q) (is.each origin) ∙ past_has origin (summary_count since origin) (held origin) q a)
]
