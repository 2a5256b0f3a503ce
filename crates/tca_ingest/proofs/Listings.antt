-- The lists of a journal, in words of its entries.
use Rattle.std.proofs.Common.{◌≡◌, ◌≢◌, ◌⊎◌, ◌↔◌, ℕ, Bool, true, false, ◌||◌, cond, Option, Result, List, [], ◌∷◌, ◌++◌, ◌==◌, refl, sym, ap, ◌∙◌, subst, append_assoc, inl, inr}
use Rattle.std.proofs.lemmas.List.{append-nil}
use Rattle.std.proofs.lemmas.Bool.{eq-eqb, or_left, or_right, or_cases}
use Rattle.std.specs.Ordering.{eq_by_cmp}
use Rattle.tca_report.specs.report.Reports.{PacketReport, report_cmp}
use Rattle.tca_report.proofs.lemmas.report.Order.{report_total}
use Rattle.tca_join.specs.Sets.{has, put}
use Rattle.tca_join.proofs.Sets.{has-put}
use Rattle.tca_log.specs.declared.fault.LogFault.{LogFault}
use Rattle.tca_accounts.specs.Plans.{AccountPlan}
use Rattle.tca_gossip.specs.Replicas.{of, reports_in, fresh_of}
use Rattle.tca_gossip.specs.Runs.{RunView, rests}
use Rattle.tca_gossip.specs.declared.fault.AbsorbFault.{AbsorbFault}
use Rattle.tca_gossip.proofs.Appends.{of_append}
use Rattle.tca_gossip.proofs.Logs.{none_has}
use Rattle.tca_ingest.specs.Entries.{EntryView, Took, Absorbed, Answered, Asked, Sent}
use Rattle.tca_ingest.specs.Journals.{Lists, no_lists, list_of, gained_by, with_entry, lists_from, lists, own, part, after, took_in, AreRightFrom, AreRight}
use Rattle.tca_ingest.proofs.Gains.{none_of, gained_own}
use Rattle.tca_ingest.proofs.Holdings.{has_after, has_one, known_more}
use Rattle.tca_ingest.proofs.Histories.{lists_push}

-- what takes list
pub listed_from : (name : ℕ) (l : Lists) (journal : List EntryView) → (lists_from name l journal).listed ≡ l.listed ++ took_in journal
unfolding lists_from took_in
listed_from name l [] = sym (append-nil l.listed)
listed_from name l (Took pass reports fresh stop ∷ es) = listed_from name (with_entry name l (Took pass reports fresh stop)) es ∙ append_assoc l.listed reports (took_in es)
listed_from name l (Absorbed pass runs result ∷ es) = listed_from name (with_entry name l (Absorbed pass runs result)) es
listed_from name l (Answered pass bill ∷ es) = listed_from name l es
listed_from name l (Asked pass summary ∷ es) = listed_from name l es
listed_from name l (Sent pass since delta ∷ es) = listed_from name l es

-- absorbs of a right journal append nothing to the own list
no_gain : (plan : AccountPlan) (name : ℕ) (l : Lists) (journal : List EntryView) → of name l.gained ≡ [] → AreRightFrom plan name l journal → of name (lists_from name l journal).gained ≡ []
unfolding lists_from AreRightFrom
no_gain plan name l [] none right = none
no_gain plan name l (Took pass reports fresh stop ∷ es) none right = no_gain plan name (with_entry name l (Took pass reports fresh stop)) es none right.1
no_gain plan name l (Absorbed pass runs result ∷ es) none right =
    no_gain plan name (with_entry name l (Absorbed pass runs result)) es
    (of_append name l.gained (gained_by result (rests (list_of name l) runs)) ∙ (λ i. none i ++ gained_own name (list_of name l) runs result right.0.0 i)) right.1
no_gain plan name l (Answered pass bill ∷ es) none right = no_gain plan name l es none right.1
no_gain plan name l (Asked pass summary ∷ es) none right = no_gain plan name l es none right.1
no_gain plan name l (Sent pass since delta ∷ es) none right = no_gain plan name l es none right.1

-- a report among pairs is one of some origin
some_of : (ps : List (ℕ × PacketReport)) (q : PacketReport) → has report_cmp (reports_in ps) q ≡ true → (o : ℕ) × (has report_cmp (of o ps) q ≡ true)
unfolding reports_in of
some_of [] q e = absurd (none_has q e)
some_of (p ∷ ps) q e =
    elim (or_cases (eq_by_cmp report_cmp q p.1) (has report_cmp (reports_in ps) q) (sym (has_one p.1 (reports_in ps) q) ∙ e)) [
      | inl h ↦ (p.0, ap (λ b. has report_cmp (cond b (p.1 ∷ of p.0 ps) (of p.0 ps)) q) (eq-eqb p.0 p.0 refl) ∙ has_one p.1 (of p.0 ps) q ∙ or_left (eq_by_cmp report_cmp q p.1) (has report_cmp (of p.0 ps) q) h)
      | inr h ↦ let found = some_of ps q h in (
        found.0,
        elim (found.0 == p.0) as (λ b. has report_cmp (cond b (p.1 ∷ of found.0 ps) (of found.0 ps)) q ≡ true) [
          | true ↦ has_one p.1 (of found.0 ps) q ∙ or_right (eq_by_cmp report_cmp q p.1) (has report_cmp (of found.0 ps) q) found.1
          | false ↦ found.1
        ],
      )
    ]

of_some : (ps : List (ℕ × PacketReport)) (o : ℕ) (q : PacketReport) → has report_cmp (of o ps) q ≡ true → has report_cmp (reports_in ps) q ≡ true
unfolding reports_in of
of_some [] o q e = absurd (none_has q e)
of_some (p ∷ ps) o q e =
    has_one p.1 (reports_in ps) q
    ∙ elim (o == p.0) as (λ b. has report_cmp (cond b (p.1 ∷ of o ps) (of o ps)) q ≡ true → (eq_by_cmp report_cmp q p.1 || has report_cmp (reports_in ps) q) ≡ true) [
      | true ↦ λ e. elim (or_cases (eq_by_cmp report_cmp q p.1) (has report_cmp (of o ps) q) (sym (has_one p.1 (of o ps) q) ∙ e)) [
        | inl h ↦ or_left (eq_by_cmp report_cmp q p.1) (has report_cmp (reports_in ps) q) h
        | inr h ↦ or_right (eq_by_cmp report_cmp q p.1) (has report_cmp (reports_in ps) q) (of_some ps o q h)
      ]
      | false ↦ λ e. or_right (eq_by_cmp report_cmp q p.1) (has report_cmp (reports_in ps) q) (of_some ps o q e)
    ] e

-- the set of a right journal: what takes list, and all parts of other origins
pub after_reads : (plan : AccountPlan) (name : ℕ) (journal : List EntryView) (q : PacketReport) → AreRight plan name journal
    → (has report_cmp (after name journal) q ≡ true) ↔ ((has report_cmp (took_in journal) q ≡ true) ⊎ ((o : ℕ) × (o ≢ name) × (has report_cmp (part name journal o) q ≡ true)))
after_reads plan name journal q right =
    let whole : has report_cmp (after name journal) q ≡ (has report_cmp (took_in journal) q || has report_cmp (reports_in (lists name journal).gained) q) =
    has_after (lists name journal) q ∙ ap (λ (xs : List PacketReport). has report_cmp xs q || has report_cmp (reports_in (lists name journal).gained) q) (listed_from name no_lists journal) in (
      (λ e. elim (or_cases (has report_cmp (took_in journal) q) (has report_cmp (reports_in (lists name journal).gained) q) (sym whole ∙ e)) [
        | inl h ↦ inl h
        | inr h ↦ let found = some_of (lists name journal).gained q h in
            inr (found.0, (λ is. none_has q (subst (λ (xs : List PacketReport). has report_cmp xs q ≡ true) (ap (λ z. of z (lists name journal).gained) is ∙ no_gain plan name no_lists journal (none_of name) right) found.1)), found.1)
      ]),
      (λ e. whole ∙ elim e [
        | inl h ↦ or_left (has report_cmp (took_in journal) q) (has report_cmp (reports_in (lists name journal).gained) q) h
        | inr h ↦ or_right (has report_cmp (took_in journal) q) (has report_cmp (reports_in (lists name journal).gained) q) (of_some (lists name journal).gained h.0 q h.2)
      ]),
    )

-- one entry more, in words of the entries
pub own_took : (name : ℕ) (journal : List EntryView) (pass : ℕ) (reports : List PacketReport) (fresh : ℕ) (stop : Option LogFault) → own name (journal ++ Took pass reports fresh stop ∷ []) ≡ own name journal ++ fresh_of (after name journal) reports
own_took name journal pass reports fresh stop = ap (λ (l : Lists). l.fresh) (lists_push name no_lists journal (Took pass reports fresh stop))

pub own_absorbed : (name : ℕ) (journal : List EntryView) (pass : ℕ) (runs : List RunView) (result : Result ℕ AbsorbFault) → own name (journal ++ Absorbed pass runs result ∷ []) ≡ own name journal
own_absorbed name journal pass runs result = ap (λ (l : Lists). l.fresh) (lists_push name no_lists journal (Absorbed pass runs result))

pub part_took : (name : ℕ) (journal : List EntryView) (pass : ℕ) (reports : List PacketReport) (fresh : ℕ) (stop : Option LogFault) (o : ℕ) → part name (journal ++ Took pass reports fresh stop ∷ []) o ≡ part name journal o
part_took name journal pass reports fresh stop o = ap (λ (l : Lists). of o l.gained) (lists_push name no_lists journal (Took pass reports fresh stop))

pub part_absorbed : (name : ℕ) (journal : List EntryView) (pass : ℕ) (runs : List RunView) (result : Result ℕ AbsorbFault) (o : ℕ) → part name (journal ++ Absorbed pass runs result ∷ []) o ≡ part name journal o ++ of o (gained_by result (rests (list_of name (lists name journal)) runs))
part_absorbed name journal pass runs result o =
    ap (λ (l : Lists). of o l.gained) (lists_push name no_lists journal (Absorbed pass runs result))
    ∙ of_append o (lists name journal).gained (gained_by result (rests (list_of name (lists name journal)) runs))

or_none : (b : Bool) → (b || false) ≡ b
or_none true = refl
or_none false = refl

turn : (a b c : Bool) → ((a || b) || c) ≡ (b || (a || c))
turn true true c = refl
turn true false c = refl
turn false b c = refl

has_nothing : (q : PacketReport) → has report_cmp [] q ≡ false
unfolding has
has_nothing q = refl

-- the last report is new where it is neither in the set nor at an earlier place
pub fresh_last : (log rs : List PacketReport) (r : PacketReport) → fresh_of log (rs ++ r ∷ []) ≡ fresh_of log rs ++ cond (has report_cmp log r || has report_cmp rs r) [] (r ∷ [])
unfolding fresh_of
fresh_last log [] r = ap (λ b. cond b [] (r ∷ [])) (sym (or_none (has report_cmp log r)) ∙ ap (λ b. has report_cmp log r || b) (sym (has_nothing r)))
fresh_last log (x ∷ rs) r =
    elim (has report_cmp log x) as (λ b. has report_cmp log x ≡ b → cond b (fresh_of log (rs ++ r ∷ [])) (x ∷ fresh_of (put report_cmp x log) (rs ++ r ∷ [])) ≡ cond b (fresh_of log rs) (x ∷ fresh_of (put report_cmp x log) rs) ++ cond (has report_cmp log r || has report_cmp (x ∷ rs) r) [] (r ∷ [])) [
      | true ↦ λ is. fresh_last log rs r ∙ ap (λ b. fresh_of log rs ++ cond b [] (r ∷ [])) (known_more log rs x r is)
      | false ↦ λ is.
          ap (λ (l : List PacketReport). x ∷ l) (fresh_last (put report_cmp x log) rs r)
          ∙ ap (λ b. x ∷ (fresh_of (put report_cmp x log) rs ++ cond b [] (r ∷ [])))
          (ap (λ b. b || has report_cmp rs r) (has-put report_cmp report_total x log r)
          ∙ turn (eq_by_cmp report_cmp r x) (has report_cmp log r) (has report_cmp rs r)
          ∙ ap (λ b. has report_cmp log r || b) (sym (has_one x rs r)))
    ] refl
