-- What a journal lists, and when each of its entries is right.
use Rattle.std.specs.Prelude.{◌≡◌, ℕ, cond, nat_lt, ◌==◌, Option, None, Some, Result, Ok, Err, List, [], ◌∷◌, ◌++◌, length, take, drop}
use Rattle.tca_report.specs.report.Reports.{PacketReport, report_cmp, most_reports}
use Rattle.tca_join.specs.Sets.{in_order}
use Rattle.tca_join.specs.Maps.{get, Rises}
use Rattle.tca_log.specs.declared.fault.LogFault.{LogFault}
use Rattle.tca_log.specs.declared.fault.LogFault.TheVariants.{Full}
use Rattle.tca_accounts.specs.Plans.{AccountPlan}
use Rattle.tca_accounts.specs.Bills.{bill_of}
use Rattle.tca_gossip.specs.Replicas.{ReplicaView, new_replica, taken, fresh_of, of, reports_in}
use Rattle.tca_gossip.specs.Runs.{RunView, IsOutcome, absorbed, rests, summary_count}
use Rattle.tca_gossip.specs.Answers.{outcome_of, cause_of}
use Rattle.tca_gossip.specs.declared.fault.AbsorbFault.{AbsorbFault}
use Rattle.tca_gossip.specs.declared.fault.AbsorbFault.TheVariants.{Gap, Forked, OwnAhead, Stopped}
use Rattle.tca_ingest.specs.Entries.{EntryView, Took, Absorbed, Answered, Asked, Sent, pass_of}

-- What entries list: the reports of takes; those of them that were new at their turn; and what absorbs append, each report with its
-- origin.
pub record Lists : Type 0 where
  pub listed : List PacketReport
  pub fresh : List PacketReport
  pub gained : List (ℕ × PacketReport)

abbrev pub no_lists : Lists
no_lists = record { listed = []; fresh = []; gained = [] }

-- all reports of the lists, as a set
abbrev pub set_of : Lists → List PacketReport
set_of l = in_order report_cmp (l.listed ++ reports_in l.gained)

-- the list of an origin, in the journal of a replica of this name
abbrev pub list_of : ℕ → Lists → ℕ → List PacketReport
list_of name l origin = cond (origin == name) l.fresh (of origin l.gained)

-- of all that is new in an absorb's runs, what it appends: all, the first of it where it stopped, nothing where it was refused
abbrev pub gained_by : Result ℕ AbsorbFault → List (ℕ × PacketReport) → List (ℕ × PacketReport)
gained_by (Ok count) new = new
gained_by (Err (Gap origin have from)) new = []
gained_by (Err (Forked origin at)) new = []
gained_by (Err (OwnAhead have said)) new = []
gained_by (Err (Stopped count cause)) new = take count new

-- the lists with one entry more
abbrev pub with_entry : ℕ → Lists → EntryView → Lists
with_entry name l (Took pass reports fresh stop) = record { listed = l.listed ++ reports; fresh = l.fresh ++ fresh_of (set_of l) reports; gained = l.gained }
with_entry name l (Absorbed pass runs result) = record { listed = l.listed; fresh = l.fresh; gained = l.gained ++ gained_by result (rests (list_of name l) runs) }
with_entry name l (Answered pass bill) = l
with_entry name l (Asked pass summary) = l
with_entry name l (Sent pass since delta) = l

unfoldable pub lists_from : ℕ → Lists → List EntryView → Lists
lists_from name l [] = l
lists_from name l (e ∷ es) = lists_from name (with_entry name l e) es

abbrev pub lists : ℕ → List EntryView → Lists
lists name journal = lists_from name no_lists journal

-- the reports that were taken here and were new, in order
abbrev pub own : ℕ → List EntryView → List PacketReport
own name journal = (lists name journal).fresh

-- what was absorbed of another origin, in order
abbrev pub part : ℕ → List EntryView → ℕ → List PacketReport
part name journal origin = of origin (lists name journal).gained

-- the set of all reports
abbrev pub after : ℕ → List EntryView → List PacketReport
after name journal = set_of (lists name journal)

-- the reports that takes list
unfoldable pub took_in : List EntryView → List PacketReport
took_in [] = []
took_in (Took pass reports fresh stop ∷ es) = reports ++ took_in es
took_in (Absorbed pass runs result ∷ es) = took_in es
took_in (Answered pass bill ∷ es) = took_in es
took_in (Asked pass summary ∷ es) = took_in es
took_in (Sent pass since delta ∷ es) = took_in es

-- the reports that an entry brings: those that a take lists, and those that an absorb appends
abbrev pub brought_by : ℕ → Lists → EntryView → List PacketReport
brought_by name l (Took pass reports fresh stop) = reports
brought_by name l (Absorbed pass runs result) = reports_in (gained_by result (rests (list_of name l) runs))
brought_by name l (Answered pass bill) = []
brought_by name l (Asked pass summary) = []
brought_by name l (Sent pass since delta) = []

-- those that the entries of one pass bring
unfoldable pub brought_from : ℕ → ℕ → Lists → List EntryView → List PacketReport
brought_from name number l [] = []
brought_from name number l (e ∷ es) = cond (pass_of e == number) (brought_by name l e) [] ++ brought_from name number (with_entry name l e) es

abbrev pub brought : ℕ → ℕ → List EntryView → List PacketReport
brought name number journal = brought_from name number no_lists journal

-- a number, where it is above 0
abbrev pub above_zero : ℕ → Option ℕ
above_zero n = cond (nat_lt 0 n) (Some n) None

-- the lengths of the lists that are held, by origin, with none for an empty one
pub record IsSummary (held : ℕ → List PacketReport) (summary : List (ℕ × ℕ)) : Type 0 where
  pub rises : Rises summary
  pub each : (origin : ℕ) → get summary origin ≡ above_zero (length (held origin))

-- the rest of an origin's list past a count, where there is one
abbrev pub run_past : ℕ → ℕ → List PacketReport → Option RunView
run_past origin count list = cond (nat_lt count (length list)) (Some (record { origin = origin; start = count; reports = drop count list })) None

unfoldable pub by_origin : List RunView → List (ℕ × RunView)
by_origin [] = []
by_origin (run ∷ runs) = (run.origin, run) ∷ by_origin runs

-- for each origin of which more is held than a summary counts, the run of the rest
pub record IsAnswer (held : ℕ → List PacketReport) (since : List (ℕ × ℕ)) (delta : List RunView) : Type 0 where
  pub rises : Rises (by_origin delta)
  pub each : (origin : ℕ) → get (by_origin delta) origin ≡ run_past origin (summary_count since origin) (held origin)

-- where a call stopped as full, the set is at the limit of a log
abbrev pub IsFullAtLimit : Option LogFault → List PacketReport → Type 0
IsFullAtLimit stop log = stop ≡ Some Full → length log ≡ most_reports

-- an entry says what the lists of the entries before it give
abbrev pub IsRight : AccountPlan → ℕ → Lists → EntryView → Type 0
IsRight plan name l (Took pass reports fresh stop) = (fresh ≡ length (fresh_of (set_of l) reports)) × IsFullAtLimit stop (set_of (with_entry name l (Took pass reports fresh stop)))
IsRight plan name l (Absorbed pass runs result) = IsOutcome name (list_of name l) runs (outcome_of result) × IsFullAtLimit (cause_of result) (set_of (with_entry name l (Absorbed pass runs result)))
IsRight plan name l (Answered pass bill) = bill ≡ bill_of plan (set_of l)
IsRight plan name l (Asked pass summary) = IsSummary (list_of name l) summary
IsRight plan name l (Sent pass since delta) = IsAnswer (list_of name l) since delta

unfoldable pub AreRightFrom : AccountPlan → ℕ → Lists → List EntryView → Type 0
AreRightFrom plan name l [] = Unit {0}
AreRightFrom plan name l (e ∷ es) = IsRight plan name l e × AreRightFrom plan name (with_entry name l e) es

-- every entry is right
abbrev pub AreRight : AccountPlan → ℕ → List EntryView → Type 0
AreRight plan name journal = AreRightFrom plan name no_lists journal

-- what an entry does to a replica
abbrev pub after_entry : ReplicaView → EntryView → ReplicaView
after_entry v (Took pass reports fresh stop) = taken v reports
after_entry v (Absorbed pass runs result) = absorbed v runs (outcome_of result)
after_entry v (Answered pass bill) = v
after_entry v (Asked pass summary) = v
after_entry v (Sent pass since delta) = v

-- what the entries do, one after another
unfoldable pub after_entries : ReplicaView → List EntryView → ReplicaView
after_entries v [] = v
after_entries v (e ∷ es) = after_entries (after_entry v e) es

-- the journal is the history of a replica: a new one becomes it by the entries, one after another, and every entry is right
pub record IsHistory (plan : AccountPlan) (name : ℕ) (v : ReplicaView) (journal : List EntryView) : Type 0 where
  pub made : v ≡ after_entries (new_replica plan name) journal
  pub right : AreRight plan name journal
