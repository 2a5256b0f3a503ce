-- The passes by which a replica is used, and how they account for its journal.
use Rattle.std.specs.Prelude.{◌≡◌, ◌≢◌, ◌⊎◌, ◌≤◌, ℕ, suc, true, ◌==◌, Option, None, Some, List, [], ◌∷◌, ◌++◌, length, map, slice_get, take}
use Rattle.std.specs.List.{All, AllPairs, AllByRecursion, filter, sum_by}
use Rattle.tca_report.specs.report.Reports.{PacketReport, report_cmp}
use Rattle.tca_join.specs.Sets.{has}
use Rattle.tca_join.specs.Maps.{get}
use Rattle.tca_accounts.specs.Plans.{AccountPlan}
use Rattle.tca_accounts.specs.Bills.{bill_of}
use Rattle.tca_accounts.specs.declared.bill.Bill.{Bill}
use Rattle.tca_gossip.specs.Runs.{RunView, summary_count}
use Rattle.tca_ingest.specs.Entries.{EntryView, Answered, Asked, Sent, pass_of}
use Rattle.tca_ingest.specs.Journals.{IsAnswer, after, brought, by_origin, list_of, lists, took_in}

-- a pass: its number, and the calls that were made by it
pub record PassView : Type 0 where
  pub number : ℕ
  pub calls : List EntryView

-- the entries of one pass, in order
abbrev pub calls_of : ℕ → List EntryView → List EntryView
calls_of number journal = filter (λ e. pass_of e == number) journal

-- how many entries passes have
abbrev pub count_of : List PassView → ℕ
count_of passes = sum_by (λ p. length p.calls) passes

-- each pass has just the journal's entries of its number, the numbers differ, and together they have as many entries
pub record AreClosing (journal : List EntryView) (passes : List PassView) : Type 0 where
  pub each : All (λ p. calls_of p.number journal ≡ p.calls) passes
  pub apart : AllPairs (λ p q. p.number ≢ q.number) passes
  pub count : count_of passes ≡ length journal

-- the calls are entries of the journal at these places, which ascend and of which none is below the first number
abbrev pub AreAtFrom : ℕ → List ℕ → List EntryView → List EntryView → Type 0
AreAtFrom low [] journal [] = Unit {0}
AreAtFrom low (place ∷ places) journal (e ∷ es) = (low ≤ place) × (slice_get journal place ≡ Some e) × AreAtFrom (suc place) places journal es
AreAtFrom low [] journal (e ∷ es) = ⊥
AreAtFrom low (place ∷ places) journal [] = ⊥

-- and these are their places
abbrev pub AreAt : List ℕ → List EntryView → List EntryView → Type 0
AreAt places journal calls = AreAtFrom 0 places journal calls

-- a pass whose calls are found in the journal, at ascending places, as entries of its number
pub record IsFound (journal : List EntryView) (p : PassView) : Type 0 where
  pub places : List ℕ
  pub at : AreAt places journal p.calls
  pub whose : All (λ e. pass_of e ≡ p.number) p.calls

-- one of the lists begins with x, and left are the lists without it
abbrev pub Takes : {A : Type 0} → A → List (List A) → List (List A) → Type 0
Takes x [] left = ⊥
Takes {A} x (l ∷ ls) left = ((rest : List A) × (l ≡ x ∷ rest) × (left ≡ rest ∷ ls)) ⊎ ((others : List (List A)) × (left ≡ l ∷ others) × Takes x ls others)

-- the items of xs are taken one by one from the front of one of the lists, until all lists are empty
abbrev pub IsInterleaving : {A : Type 0} → List (List A) → List A → Type 0
IsInterleaving ls [] = AllByRecursion (λ l. l ≡ []) ls
IsInterleaving {A} ls (x ∷ xs) = (left : List (List A)) × Takes x ls left × IsInterleaving left xs

abbrev pub lists_of : List PassView → List (List EntryView)
lists_of passes = map (λ p. p.calls) passes

-- a pass whose calls are the journal's of its number, which none before it has
abbrev pub IsOwned : List EntryView → List PassView → PassView → Type 0
IsOwned journal before p = (calls_of p.number journal ≡ p.calls) × AllByRecursion (λ q. q.number ≢ p.number) before

unfoldable pub AllOwned : List EntryView → List PassView → List PassView → Type 0
AllOwned journal before [] = Unit {0}
AllOwned journal before (p ∷ ps) = IsOwned journal before p × AllOwned journal (before ++ p ∷ []) ps

-- the journal and the passes given have not as many entries
pub record AreMissing (journal : List EntryView) (passes : List PassView) (counted given : ℕ) : Type 0 where
  pub in_journal : counted ≡ length journal
  pub in_passes : given ≡ count_of passes
  pub differ : counted ≢ given

-- they have as many, and this is the number of the first pass whose calls aren't the journal's, or whose number came before
pub record IsDiffering (journal : List EntryView) (passes : List PassView) (pass : ℕ) : Type 0 where
  pub before : List PassView
  pub at : PassView
  pub rest : List PassView
  pub split : passes ≡ before ++ at ∷ rest
  pub number : at.number ≡ pass
  pub count : count_of passes ≡ length journal
  pub owned : AllOwned journal [] before
  pub differs : IsOwned journal before at → ⊥

-- A bill that a pass was answered after these calls of its own is the bill of what was held by then: of all entries before it in the
-- journal. Of the pass just these calls are among them, and all reports that they took, or that their absorbs appended, are held.
pub record IsAnswered (plan : AccountPlan) (name : ℕ) (journal calls : List EntryView) (number pass : ℕ) (bill : Bill) : Type 0 where
  pub before : List EntryView
  pub later : List EntryView
  pub split : journal ≡ before ++ Answered pass bill ∷ later
  pub own_calls : calls_of number before ≡ calls
  pub bill_is : bill ≡ bill_of plan (after name before)
  pub took : (q : PacketReport) → has report_cmp (took_in calls) q ≡ true → has report_cmp (after name before) q ≡ true
  pub holds : (q : PacketReport) → has report_cmp (brought name number before) q ≡ true → has report_cmp (after name before) q ≡ true

-- A summary that a pass was answered after these calls counts, of each origin, the list as it was by then. Each report that the calls
-- brought is in one of these lists.
pub record IsAsked (name : ℕ) (journal calls : List EntryView) (number pass : ℕ) (summary : List (ℕ × ℕ)) : Type 0 where
  pub before : List EntryView
  pub later : List EntryView
  pub split : journal ≡ before ++ Asked pass summary ∷ later
  pub own_calls : calls_of number before ≡ calls
  pub counts : (origin : ℕ) → summary_count summary origin ≡ length (list_of name (lists name before) origin)
  pub holds : (q : PacketReport) → has report_cmp (brought name number before) q ≡ true → (origin : ℕ) × (has report_cmp (list_of name (lists name before) origin) q ≡ true)

abbrev pub reports_of : Option RunView → List PacketReport
reports_of None = []
reports_of (Some run) = run.reports

-- A delta that a pass was answered after these calls has, of each origin, the rest of the list as it was by then, past what the summary
-- counts. Each report that the calls brought is among those that the summary counts, or in the delta.
pub record IsSent (name : ℕ) (journal calls : List EntryView) (number pass : ℕ) (since : List (ℕ × ℕ)) (delta : List RunView) : Type 0 where
  pub before : List EntryView
  pub later : List EntryView
  pub split : journal ≡ before ++ Sent pass since delta ∷ later
  pub own_calls : calls_of number before ≡ calls
  pub answer : IsAnswer (list_of name (lists name before)) since delta
  pub holds : (q : PacketReport) → has report_cmp (brought name number before) q ≡ true
      → (origin : ℕ) × ((has report_cmp (take (summary_count since origin) (list_of name (lists name before) origin)) q ≡ true) ⊎ (has report_cmp (reports_of (get (by_origin delta) origin)) q ≡ true))
