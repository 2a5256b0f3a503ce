-- The steps of a world, what each may answer, and what it leaves.
use Rattle.std.specs.Prelude.{◌≡◌, ℕ, ◌+◌, ◌-◌, ◌<◌, ◌≤◌, min, max, Bool, true, false, ◌&&◌, ◌||◌, ◌⊎◌, cond, nat_lt, ◌==◌, Option, None, Some, is_some, IfSome, List, [], ◌∷◌, length, take, slice_get}
use Rattle.std.specs.List.{list_any}
use Rattle.std.specs.List.Sorted.{IsStrictlySortedBy}
use Rattle.tca_report.specs.report.Reports.{PacketReport, report_cmp, most_reports}
use Rattle.tca_join.specs.Sets.{has}
use Rattle.tca_log.specs.declared.fault.LogFault.{LogFault}
use Rattle.tca_log.specs.declared.fault.LogFault.TheVariants.{Full as at_limit, Memory as no_memory}
use Rattle.tca_join.specs.declared.fault.JoinFault.{JoinFault}
use Rattle.tca_join.specs.declared.fault.JoinFault.TheVariants.{Clash, Full, Memory}
use Rattle.tca_gossip.specs.Runs.{RunView, Fault, OwnAhead, Gap, Forked, Outcome, Appended, Stopped, Refused, AreRuns, same_report, or_else, rests}
use Rattle.tca_gossip.specs.Machines.{Message, Counts, Parts, Machine, is_name, held_prefix, at_name, took, sends, raised, joined, run_between}

pub data Step : Type 0 where
  -- the replica of this name takes reports
  Take : (at : ℕ) (reports : List PacketReport) → Step
  -- it sends how much it holds
  Ask : (at : ℕ) → Step
  -- it sends what it holds past the counts of a message
  Answer : (at message : ℕ) → Step
  -- the parts of a message come to it
  Deliver : (message to : ℕ) → Step
  Merge : (into other : ℕ) → Step

pub data MergeEnd : Type 0 where
  Joined : MergeEnd
  Unjoined : (fault : JoinFault) → MergeEnd

pub data Reply : Type 0 where
  Took : (taken fresh : ℕ) (stop : Option LogFault) → Reply
  Sent : (number : ℕ) → Reply
  -- and why, where it stopped
  Absorbed : (outcome : Outcome) (cause : Option LogFault) → Reply
  Merged : (end : MergeEnd) → Reply
  Nothing : Reply
  NoMemory : Reply

-- whether n holds a report: it is among the arrivals that n holds of some replica
abbrev pub in_log : Machine → ℕ → PacketReport → Bool
in_log m n q = list_any (λ o. has report_cmp (held_prefix m n o) q) m.names

-- the reports that are not held at their turn, where these are held before
unfoldable pub fresh_in : (PacketReport → Bool) → List PacketReport → List PacketReport
fresh_in held [] = []
fresh_in held (r ∷ rs) = cond (held r) (fresh_in held rs) (r ∷ fresh_in (λ q. same_report q r || held q) rs)

-- the set of the reports that pass a test, in order
pub record IsSetOf (held : PacketReport → Bool) (set : List PacketReport) : Type 0 where
  pub rises : IsStrictlySortedBy report_cmp set
  pub same : (q : PacketReport) → has report_cmp set q ≡ held q

-- why a report that isn't held is not taken: as many are held as may be, or there is room and memory ran out
abbrev pub IsStopWith : (PacketReport → Bool) → LogFault → Type 0
IsStopWith held at_limit = (set : List PacketReport) × IsSetOf held set × (length set ≡ most_reports)
IsStopWith held no_memory = (set : List PacketReport) × IsSetOf held set × (length set < most_reports)

-- more reports pass a test than a log may have
abbrev pub AreTooMany : (PacketReport → Bool) → Type 0
AreTooMany held = (set : List PacketReport) × IsSetOf held set × (most_reports < length set)

-- no more reports pass a test than a log may have
abbrev pub AreWithin : (PacketReport → Bool) → Type 0
AreWithin held = (set : List PacketReport) × IsSetOf held set × (length set ≤ most_reports)

-- a take goes through the first reports, and appends those that are new. It stops exactly where these aren't all
pub record TakeEnds (m : Machine) (n : ℕ) (reports : List PacketReport) (taken fresh : ℕ) (stop : Option LogFault) (w : Machine) : Type 0 where
  pub named : is_name m n ≡ true
  pub within : taken ≤ length reports
  pub stop_is : is_some stop ≡ nat_lt taken (length reports)
  pub fresh_is : fresh ≡ length (fresh_in (in_log m n) (take taken reports))
  pub after : w ≡ took m n (fresh_in (in_log m n) (take taken reports))
  -- the report that it stopped before isn't held
  pub unheld : is_some stop ≡ true → (r : PacketReport) → slice_get reports taken ≡ Some r → in_log w n r ≡ false
  -- and why
  pub cause : IfSome stop (IsStopWith (in_log w n))

abbrev pub IsTake : Machine → ℕ → List PacketReport → Reply → Machine → Type 0
IsTake m n reports (Took taken fresh stop) w = TakeEnds m n reports taken fresh stop w
IsTake m n reports Nothing w = (is_name m n ≡ false) × (w ≡ m)
IsTake m n reports (Sent number) w = ⊥
IsTake m n reports (Absorbed outcome cause) w = ⊥
IsTake m n reports (Merged end) w = ⊥
IsTake m n reports NoMemory w = ⊥

-- whether n may send: there is such a replica, and fewer messages than the limit
abbrev pub can_send : Machine → ℕ → Bool
can_send m n = is_name m n && nat_lt (length m.sent) 4294967295

abbrev pub IsAsk : Machine → ℕ → Reply → Machine → Type 0
IsAsk m n (Sent number) w = (can_send m n ≡ true) × (number ≡ length m.sent) × (w ≡ sends m (Counts (m.held n)))
IsAsk m n Nothing w = (can_send m n ≡ false) × (w ≡ m)
IsAsk m n NoMemory w = (can_send m n ≡ true) × (w ≡ m)
IsAsk m n (Took taken fresh stop) w = ⊥
IsAsk m n (Absorbed outcome cause) w = ⊥
IsAsk m n (Merged end) w = ⊥

-- the run of an origin
abbrev pub run_of : List RunView → ℕ → Option RunView
run_of [] o = None
run_of (r ∷ rs) o = cond (o == r.origin) (Some r) (run_of rs o)

-- what n answers of an origin to counts: the run between the count and what it holds, where it holds more
abbrev pub answer_at : Machine → ℕ → (ℕ → ℕ) → ℕ → Option RunView
answer_at m n counts o = cond (nat_lt (counts o) (m.held n o)) (Some (run_between m n (counts o) o)) None

-- the answer: just these runs, by ascending origin and within the limit of a chain
pub record AreAnswer (m : Machine) (n : ℕ) (counts : ℕ → ℕ) (runs : List RunView) : Type 0 where
  pub right : AreRuns runs
  pub each : (o : ℕ) → run_of runs o ≡ answer_at m n counts o

-- the counts of a message, if it has counts
abbrev pub counts_at : Option Message → Option (ℕ → ℕ)
counts_at None = None
counts_at (Some (Counts counts)) = Some counts
counts_at (Some (Parts runs)) = None

-- and its parts
abbrev pub parts_at : Option Message → Option (List RunView)
parts_at None = None
parts_at (Some (Counts counts)) = None
parts_at (Some (Parts runs)) = Some runs

abbrev pub Answers : Machine → ℕ → Option (ℕ → ℕ) → Machine → Type 0
Answers m n None w = ⊥
Answers m n (Some counts) w = (runs : List RunView) × AreAnswer m n counts runs × (w ≡ sends m (Parts runs))

abbrev pub IsAnswer : Machine → ℕ → ℕ → Reply → Machine → Type 0
IsAnswer m n message (Sent number) w = (can_send m n ≡ true) × (number ≡ length m.sent) × Answers m n (counts_at (slice_get m.sent message)) w
IsAnswer m n message Nothing w = ((can_send m n && is_some (counts_at (slice_get m.sent message))) ≡ false) × (w ≡ m)
IsAnswer m n message NoMemory w = ((can_send m n && is_some (counts_at (slice_get m.sent message))) ≡ true) × (w ≡ m)
IsAnswer m n message (Took taken fresh stop) w = ⊥
IsAnswer m n message (Absorbed outcome cause) w = ⊥
IsAnswer m n message (Merged end) w = ⊥

-- a run that starts past what n holds is a gap
abbrev pub gap_at : Machine → ℕ → RunView → Option Fault
gap_at m n r = cond (nat_lt (m.held n r.origin) r.start) (Some (Gap r.origin (m.held n r.origin) r.start)) None

unfoldable pub first_gap : Machine → ℕ → List RunView → Option Fault
first_gap m n [] = None
first_gap m n (r ∷ rs) = or_else (gap_at m n r) (first_gap m n rs)

-- how many reports of a run are new to n
abbrev pub new_of : Machine → ℕ → RunView → ℕ
new_of m n r = r.start + length r.reports - m.held n r.origin

unfoldable pub new_in : Machine → ℕ → List RunView → ℕ
new_in m n [] = 0
new_in m n (r ∷ rs) = new_of m n r + new_in m n rs

-- of the first new reports, in the order of the runs, how many are of an origin
unfoldable pub gain_of : Machine → ℕ → List RunView → ℕ → ℕ → ℕ
gain_of m n [] count o = 0
gain_of m n (r ∷ rs) count o = cond (o == r.origin) (min count (new_of m n r)) 0 + gain_of m n rs (count - new_of m n r) o

-- where the run of an origin ends
unfoldable pub end_at : List RunView → ℕ → ℕ
end_at [] o = 0
end_at (r ∷ rs) o = cond (o == r.origin) (r.start + length r.reports) (end_at rs o)

-- n holds each origin up to the end of its run, where that is more
abbrev pub reached : Machine → ℕ → List RunView → Machine
reached m n runs = record { names = m.names; arrivals = m.arrivals; held = at_name n (λ o. max (m.held n o) (end_at runs o)) m.held; sent = m.sent }

-- parts that come to n
abbrev pub Arrives : Machine → ℕ → List RunView → Outcome → Machine → Type 0
Arrives m n runs (Appended count) w = (first_gap m n runs ≡ None) × (count ≡ new_in m n runs) × (w ≡ reached m n runs)
Arrives m n runs (Stopped count) w = (first_gap m n runs ≡ None) × (count < new_in m n runs) × (w ≡ raised m n (gain_of m n runs count))
Arrives m n runs (Refused (Gap origin have from)) w = (first_gap m n runs ≡ Some (Gap origin have from)) × (w ≡ m)
Arrives m n runs (Refused (Forked origin at)) w = ⊥
Arrives m n runs (Refused (OwnAhead have said)) w = ⊥

-- why a report of another replica is not taken: it isn't held, and as many are held as may be, or memory ran out, where it is held
-- or there is room
abbrev pub IsUntaken : (PacketReport → Bool) → PacketReport → LogFault → Type 0
IsUntaken held r at_limit = (held r ≡ false) × IsStopWith held at_limit
IsUntaken held r no_memory = (held r ≡ true) ⊎ IsStopWith held no_memory

-- parts that stop say why the next new report was not taken, and others say no cause
abbrev pub HasCause : (PacketReport → Bool) → List (ℕ × PacketReport) → Outcome → Option LogFault → Type 0
HasCause held new (Appended count) cause = cause ≡ None
HasCause held new (Refused fault) cause = cause ≡ None
HasCause held new (Stopped count) None = ⊥
HasCause held new (Stopped count) (Some fault) = (p : ℕ × PacketReport) → slice_get new count ≡ Some p → IsUntaken held p.1 fault

abbrev pub Delivers : Machine → ℕ → Option (List RunView) → Outcome → Option LogFault → Machine → Type 0
Delivers m n None outcome cause w = ⊥
Delivers m n (Some runs) outcome cause w = Arrives m n runs outcome w × HasCause (in_log w n) (rests (held_prefix m n) runs) outcome cause

abbrev pub IsDeliver : Machine → ℕ → ℕ → Reply → Machine → Type 0
IsDeliver m message n (Absorbed outcome cause) w = (is_name m n ≡ true) × Delivers m n (parts_at (slice_get m.sent message)) outcome cause w
IsDeliver m message n Nothing w = ((is_name m n && is_some (parts_at (slice_get m.sent message))) ≡ false) × (w ≡ m)
IsDeliver m message n (Took taken fresh stop) w = ⊥
IsDeliver m message n (Sent number) w = ⊥
IsDeliver m message n (Merged end) w = ⊥
IsDeliver m message n NoMemory w = ⊥

-- a merge with itself changes nothing; no merge clashes. One that is not made is too large, where both together hold more than a log
-- may have, or else memory ran out
abbrev pub MergeEnds : Machine → ℕ → ℕ → MergeEnd → Machine → Type 0
MergeEnds m n k Joined w = w ≡ cond (n == k) m (joined m n k)
MergeEnds m n k (Unjoined (Clash key)) w = ⊥
MergeEnds m n k (Unjoined Full) w = (n == k ≡ false) × (w ≡ m) × AreTooMany (λ q. in_log m n q || in_log m k q)
MergeEnds m n k (Unjoined Memory) w = (n == k ≡ false) × (w ≡ m) × AreWithin (λ q. in_log m n q || in_log m k q)

abbrev pub IsMerge : Machine → ℕ → ℕ → Reply → Machine → Type 0
IsMerge m n k (Merged end) w = ((is_name m n && is_name m k) ≡ true) × MergeEnds m n k end w
IsMerge m n k Nothing w = ((is_name m n && is_name m k) ≡ false) × (w ≡ m)
IsMerge m n k (Took taken fresh stop) w = ⊥
IsMerge m n k (Sent number) w = ⊥
IsMerge m n k (Absorbed outcome cause) w = ⊥
IsMerge m n k NoMemory w = ⊥

-- from m, the machine may give this reply to the step and go on to w
abbrev pub IsStep : Machine → Step → Reply → Machine → Type 0
IsStep m (Take at reports) reply w = IsTake m at reports reply w
IsStep m (Ask at) reply w = IsAsk m at reply w
IsStep m (Answer at message) reply w = IsAnswer m at message reply w
IsStep m (Deliver message to) reply w = IsDeliver m message to reply w
IsStep m (Merge into other) reply w = IsMerge m into other reply w

-- it may give these replies to these steps, one after another
abbrev pub IsRun : Machine → List Step → List Reply → Machine → Type 0
IsRun m [] [] w = w ≡ m
IsRun m (step ∷ steps) (reply ∷ replies) w = (mid : Machine) × IsStep m step reply mid × IsRun mid steps replies w
IsRun m [] (reply ∷ replies) w = ⊥
IsRun m (step ∷ steps) [] w = ⊥
