-- What callers see of a book, what its calls do, and which sets of reports it fits.
use Rattle.std.specs.Prelude.{◌≡◌, ℕ, zero, suc, ◌+◌, ◌-◌, ◌<◌, ◌≤◌, Bool, true, false, List, [], ◌∷◌, ◌++◌, length, filter, get_or, map, sum_by, Option, Some, None, is_none, if◌then◌else◌}
use Rattle.std.specs.List.{AllByRecursion}
use Rattle.std.specs.List.Sorted.{IsStrictlySortedBy}
use Rattle.tca_join.specs.Sets.{put, has}
use Rattle.tca_report.specs.report.Reports.{PacketReport, report_cmp, most_reports}
use Rattle.tca_meters.specs.Termed.{TermedMeter, termed_rule}
use Rattle.tca_meters.specs.declared.colour.Colour.{Colour}
use Rattle.tca_log.specs.Disputes.{added, disputed}
use Rattle.tca_log.specs.declared.answer.Added.{Added}
use Rattle.tca_log.specs.declared.answer.Added.TheVariants.{Fresh, Repeat, NewDispute, MoreDispute}
use Rattle.tca_accounts.specs.Plans.{AccountPlan, PlannedAccount, account_of}
use Rattle.tca_accounts.specs.Bills.{coloured_by, is_number, reports_of, unassigned, tally_of}
use Rattle.tca_accounts.specs.declared.tally.Tally.{Tally}
use Rattle.tca_replay.specs.Lanes.{LaneView, lane_put, lane_less, lane_ready, lane_resumed, most_rows_a_mark}
use Rattle.tca_log.specs.Next.{reports_after, disputed_after, count_after}
use Rattle.tca_log.specs.Rows.Ordered.{most_rows}

-- What callers see of a book: a plan, how many rows there are from a mark to the next, a lane for each account, and the counts
-- of a bill.
pub record BookView : Type 0 where
  pub plan : AccountPlan
  pub k : ℕ
  pub lanes : List (LaneView TermedMeter)
  pub reports : ℕ
  pub disputed : ℕ
  pub unassigned : ℕ

-- a list with the member at a place changed
abbrev pub changed_at : {A : Type 0} → (A → A) → ℕ → List A → List A
changed_at f n [] = []
changed_at f zero (x ∷ xs) = f x ∷ xs
changed_at f (suc n) (x ∷ xs) = x ∷ changed_at f n xs

-- the lanes with the one of this account changed, if there is one
abbrev pub lanes_at : (LaneView TermedMeter → LaneView TermedMeter) → Option ℕ → List (LaneView TermedMeter) → List (LaneView TermedMeter)
lanes_at f None lanes = lanes
lanes_at f (Some n) lanes = changed_at f n lanes

-- the lanes after a report, by what it was to the set: it comes to the lane of its account, the one withdrawn leaves its own
abbrev pub lanes_after : AccountPlan → Added → PacketReport → List (LaneView TermedMeter) → List (LaneView TermedMeter)
lanes_after plan Fresh r lanes = lanes_at (λ l. lane_put l r) (account_of plan r) lanes
lanes_after plan Repeat r lanes = lanes
lanes_after plan (NewDispute q) r lanes = lanes_at (λ l. lane_less l q) (account_of plan q) lanes
lanes_after plan MoreDispute r lanes = lanes

-- the book after a report
abbrev pub book_after : BookView → PacketReport → Added → BookView
book_after b r a = record {
  plan = b.plan;
  k = b.k;
  lanes = lanes_after b.plan a r b.lanes;
  reports = reports_after a b.reports;
  disputed = disputed_after a b.disputed;
  unassigned = count_after (λ q. is_none (account_of b.plan q)) a r b.unassigned;
}

-- with room for a report
abbrev pub book_ready : BookView → PacketReport → BookView
book_ready b r = record { plan = b.plan; k = b.k; lanes = lanes_at lane_ready (account_of b.plan r) b.lanes; reports = b.reports; disputed = b.disputed; unassigned = b.unassigned }

-- with all lanes resumed
abbrev pub book_settled : BookView → BookView
book_settled b = record { plan = b.plan; k = b.k; lanes = map lane_resumed b.lanes; reports = b.reports; disputed = b.disputed; unassigned = b.unassigned }

-- the bound on the steps of a lane that is resumed
abbrev pub steps_of : LaneView TermedMeter → Option ℕ → ℕ
steps_of l None = 0
steps_of l (Some p) = length l.rows + l.k - p

-- and of all lanes
abbrev pub most_steps : List (LaneView TermedMeter) → ℕ
most_steps lanes = sum_by (λ l. steps_of l l.changed) lanes

-- the rows of a lane from the least changed one on, none where nothing changed
abbrev pub changed_rows : LaneView TermedMeter → Option ℕ → ℕ
changed_rows l None = 0
changed_rows l (Some p) = length l.rows - p

-- and of all lanes: what has to be metered at least
abbrev pub fewest_steps : List (LaneView TermedMeter) → ℕ
fewest_steps lanes = sum_by (λ l. changed_rows l l.changed) lanes

-- all rows of a lane changed, if it has any
abbrev pub AllChanged : Option ℕ → List PacketReport → Type 0
AllChanged None rows = rows ≡ []
AllChanged (Some p) rows = p ≡ 0

-- how many rows the lanes have
abbrev pub row_count : List (LaneView TermedMeter) → ℕ
row_count lanes = sum_by (λ l. length l.rows) lanes

-- the bound on the steps of lanes that are metered anew from their first rows
abbrev pub all_steps : List (LaneView TermedMeter) → ℕ
all_steps lanes = sum_by (λ l. length l.rows + l.k) lanes

-- what a lane is metered by, which no call changes
abbrev pub terms_of : LaneView TermedMeter → TermedMeter × Colour × ℕ × ℕ
terms_of l = (l.meter, l.other, l.period, l.k)

-- a lane is metered as an account is
abbrev pub IsLaneOf : ℕ → ℕ → PlannedAccount → LaneView TermedMeter → Type 0
IsLaneOf period k a l = terms_of l ≡ (a.meter, a.other, period, k)

-- there is one for each account of the plan
pub record AreLanes (plan : AccountPlan) (k : ℕ) (lanes : List (LaneView TermedMeter)) : Type 0 where
  pub count : length lanes ≡ length plan.accounts
  pub each : (n : ℕ) (a : PlannedAccount) (l : LaneView TermedMeter) → n < length plan.accounts → IsLaneOf plan.period k (get_or plan.accounts n a) (get_or lanes n l)

-- a book's rows are the reports of its accounts in this set, and its counts are those of the set's bill
pub record Fits (rs : List PacketReport) (b : BookView) : Type 0 where
  pub reports : b.reports ≡ length rs
  pub disputed_is : b.disputed ≡ length (disputed rs)
  pub unassigned_is : b.unassigned ≡ length (unassigned b.plan rs)
  pub rows : (n : ℕ) (l : LaneView TermedMeter) → n < length b.lanes → (get_or b.lanes n l).rows ≡ reports_of b.plan n rs

-- the book has room for a report
abbrev pub IsReady : BookView → PacketReport → Type 0
IsReady b r = (n : ℕ) (l : LaneView TermedMeter) → n < length b.lanes → account_of b.plan r ≡ Some n → (get_or b.lanes n l).ready ≡ true

-- the answer is the one of a set that the book fits, and the set with the report is within the limit
pub record Takes (b : BookView) (r : PacketReport) (a : Added) : Type 0 where
  pub set : List PacketReport
  pub rises : IsStrictlySortedBy report_cmp set
  pub fits : Fits set b
  pub answer : a ≡ added set r
  pub few : length (put report_cmp r set) ≤ most_reports

-- the tally of a lane's rows
abbrev pub lane_tally : LaneView TermedMeter → Tally
lane_tally l = tally_of l.period (coloured_by (termed_rule l.meter) l.other l.rows)

-- each lane was resumed since its rows changed
abbrev pub AreResumed : List (LaneView TermedMeter) → Type 0
AreResumed lanes = AllByRecursion (λ l. l.changed ≡ None) lanes

-- no lane has a row, and none was changed
abbrev pub AreEmpty : List (LaneView TermedMeter) → Type 0
AreEmpty lanes = AllByRecursion (λ l. (l.rows ≡ []) × (l.changed ≡ None)) lanes

-- 1 where it is so
abbrev pub one_if : Bool → ℕ
one_if b = if b then 1 else 0

-- the lane of a report's account has room for it and doesn't have it
pub record CanPut (l : LaneView TermedMeter) (r : PacketReport) : Type 0 where
  pub ready_is : l.ready ≡ true
  pub new : has report_cmp l.rows r ≡ false
  pub few : length l.rows < most_rows

abbrev pub CanEnter : AccountPlan → List (LaneView TermedMeter) → PacketReport → Type 0
CanEnter plan lanes r = (n : ℕ) (l : LaneView TermedMeter) → n < length lanes → account_of plan r ≡ Some n → CanPut (get_or lanes n l) r

-- the lane of a report's account has it
abbrev pub CanLeave : AccountPlan → List (LaneView TermedMeter) → PacketReport → Type 0
CanLeave plan lanes r = (n : ℕ) (l : LaneView TermedMeter) → n < length lanes → account_of plan r ≡ Some n → has report_cmp (get_or lanes n l).rows r ≡ true

-- what a book keeps: a lane for each account
pub record IsBook (plan : AccountPlan) (k : ℕ) (lanes : List (LaneView TermedMeter)) : Type 0 where
  pub lanes_are : AreLanes plan k lanes
  pub some : 0 < k
  pub small : k ≤ most_rows_a_mark

-- the lanes have the reports of their accounts among these, but for the later ones, and so many have no account
pub record AreFilled (plan : AccountPlan) (k : ℕ) (all later : List PacketReport) (number : ℕ) (lanes : List (LaneView TermedMeter)) : Type 0 where
  pub sofar : List PacketReport
  pub split : sofar ++ later ≡ all
  pub lanes_are : AreLanes plan k lanes
  pub rows : (n : ℕ) (l : LaneView TermedMeter) → n < length lanes → (get_or lanes n l).rows ≡ filter (λ r. is_number n (account_of plan r)) sofar
  pub none : number ≡ length (filter (λ r. is_none (account_of plan r)) sofar)
  pub changed : (n : ℕ) (l : LaneView TermedMeter) → n < length lanes → AllChanged (get_or lanes n l).changed (get_or lanes n l).rows
