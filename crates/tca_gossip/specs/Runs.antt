-- Runs of reports from other replicas: why they are refused, and what is new in them.
use Rattle.std.specs.Prelude.{◌≡◌, ℕ, ◌+◌, ◌-◌, ◌<◌, ◌≤◌, Bool, ◌&&◌, cond, if◌then◌else◌, nat_lt, ◌==◌, Option, None, Some, List, [], ◌∷◌, ◌++◌, length, take, drop}
use Rattle.std.specs.Ordering.{eq_by_cmp}
use Rattle.std.specs.List.{AllByRecursion}
use Rattle.tca_report.specs.report.Reports.{PacketReport, report_cmp}
use Rattle.tca_join.specs.Maps.{get}
use Rattle.tca_join.specs.Chains.{differ_at, most_items}
use Rattle.tca_gossip.specs.Replicas.{ReplicaView, chain_of, appended, with_origin}

-- reports of an origin's chain, from a place on
pub record RunView : Type 0 where
  pub origin : ℕ
  pub start : ℕ
  pub reports : List PacketReport

-- runs of ascending origins, each within a chain's limit
abbrev pub AreRuns : List RunView → Type 0
AreRuns [] = Unit {0}
AreRuns (r ∷ rs) = (r.start + length r.reports ≤ most_items) × AllByRecursion (λ next. r.origin < next.origin) rs × AreRuns rs

-- what a run has past the chain that is held
abbrev pub rest_of : (ℕ → List PacketReport) → RunView → List PacketReport
rest_of held run = drop (length (held run.origin) - run.start) run.reports

-- and what runs have, each report with its origin, in their order
unfoldable pub rests : (ℕ → List PacketReport) → List RunView → List (ℕ × PacketReport)
rests held [] = []
rests held (run ∷ runs) = with_origin run.origin (rest_of held run) ++ rests held runs

-- why a run is refused: it is of the replica's own name and ends past its chain, it starts past the chain, or it differs from
-- the chain at a place
pub data Fault : Type 0 where
  OwnAhead : (have said : ℕ) → Fault
  Gap : (origin have from : ℕ) → Fault
  Forked : (origin at : ℕ) → Fault

abbrev pub same_report : PacketReport → PacketReport → Bool
same_report = eq_by_cmp report_cmp

abbrev pub forked : ℕ → ℕ → Option ℕ → Option Fault
forked origin start None = None
forked origin start (Some at) = Some (Forked origin (start + at))

-- the fault of a run at the replica of this name, which holds these chains
abbrev pub fault_of : ℕ → (ℕ → List PacketReport) → RunView → Option Fault
fault_of name held run =
    let have = length (held run.origin) in
    let end = run.start + length run.reports in
    if (run.origin == name) && nat_lt have end then Some (OwnAhead have end) else (
    if nat_lt have run.start then Some (Gap run.origin have run.start) else
    forked run.origin run.start (differ_at same_report (drop run.start (held run.origin)) run.reports))

abbrev pub or_else : Option Fault → Option Fault → Option Fault
or_else None rest = rest
or_else (Some fault) rest = Some fault

-- the first fault, run by run
unfoldable pub first_fault : ℕ → (ℕ → List PacketReport) → List RunView → Option Fault
first_fault name held [] = None
first_fault name held (run ∷ runs) = or_else (fault_of name held run) (first_fault name held runs)

-- how an absorb ended: all that is new was appended, the first of it, or nothing
pub data Outcome : Type 0 where
  Appended : (count : ℕ) → Outcome
  Stopped : (count : ℕ) → Outcome
  Refused : (fault : Fault) → Outcome

abbrev pub count_in : Outcome → ℕ
count_in (Appended n) = n
count_in (Stopped n) = n
count_in (Refused fault) = 0

-- after absorbing runs, as far as it went
abbrev pub absorbed : ReplicaView → List RunView → Outcome → ReplicaView
absorbed v runs outcome = appended v (take (count_in outcome) (rests (chain_of v) runs))

-- which outcomes there may be
abbrev pub IsOutcome : ℕ → (ℕ → List PacketReport) → List RunView → Outcome → Type 0
IsOutcome name held runs (Appended n) = (first_fault name held runs ≡ None) × (n ≡ length (rests held runs))
IsOutcome name held runs (Stopped n) = (first_fault name held runs ≡ None) × (n < length (rests held runs))
IsOutcome name held runs (Refused fault) = first_fault name held runs ≡ Some fault

abbrev pub or_zero : Option ℕ → ℕ
or_zero None = 0
or_zero (Some n) = n

-- how long a summary says the chain of an origin is
abbrev pub summary_count : List (ℕ × ℕ) → ℕ → ℕ
summary_count summary origin = or_zero (get summary origin)

-- for each origin of which more is held than a summary counts, the run of the rest
unfoldable pub delta_of : (ℕ → ℕ) → List (ℕ × List PacketReport) → List RunView
delta_of counts [] = []
delta_of counts (c ∷ cs) = cond (nat_lt (counts c.0) (length c.1)) (record { origin = c.0; start = counts c.0; reports = drop (counts c.0) c.1 } ∷ delta_of counts cs) (delta_of counts cs)
