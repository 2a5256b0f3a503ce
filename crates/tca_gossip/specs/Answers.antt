-- What the calls of a replica answer.
use Rattle.std.specs.Prelude.{◌≡◌, ◌⊎◌, ℕ, ◌<◌, Option, None, Some, Result, Ok, Err, List, length, take, slice_get, true, false}
use Rattle.tca_report.specs.report.Reports.{PacketReport, report_cmp, most_reports}
use Rattle.tca_join.specs.Sets.{has}
use Rattle.tca_log.specs.declared.fault.LogFault.{LogFault}
use Rattle.tca_log.specs.declared.fault.LogFault.TheVariants.{Full, Memory}
use Rattle.tca_gossip.specs.Replicas.{ReplicaView, taken, appended}
use Rattle.tca_gossip.specs.Runs.{Outcome, Appended, Stopped, Refused, Fault}
use Rattle.tca_gossip.specs.Runs.{OwnAhead as own_ahead, Gap as gap, Forked as forked_at}
use Rattle.tca_gossip.specs.declared.fault.AbsorbFault.{AbsorbFault}
use Rattle.tca_gossip.specs.declared.fault.AbsorbFault.TheVariants.{Gap, Forked, OwnAhead, Stopped as stopped_at}
use Rattle.tca_gossip.specs.declared.fault.WorldFault.{WorldFault}
use Rattle.tca_gossip.specs.declared.fault.WorldFault.TheVariants.{NameTwice, Memory as world_memory}

-- the number of a fault
abbrev pub absorb_number : AbsorbFault → ℕ
absorb_number (Gap origin have from) = 1
absorb_number (Forked origin at) = 2
absorb_number (OwnAhead have said) = 3
absorb_number (stopped_at taken cause) = 4

abbrev pub world_number : WorldFault → ℕ
world_number NameTwice = 1
world_number world_memory = 2

-- why a log did not take a report that is not in it: the log is at its limit, or it has room and memory ran out
abbrev pub IsRefusedFor : LogFault → List PacketReport → PacketReport → Type 0
IsRefusedFor Full log r = (length log ≡ most_reports) × (has report_cmp log r ≡ false)
IsRefusedFor Memory log r = (length log < most_reports) ⊎ (has report_cmp log r ≡ true)

-- a take stops exactly where not all reports were gone through, before a report that is not held. The log is full then, or it
-- has room and memory ran out
abbrev pub IsStopAt : List PacketReport → List PacketReport → ℕ → Option LogFault → Type 0
IsStopAt log reports at None = at ≡ length reports
IsStopAt log reports at (Some fault) = (at < length reports) × ((r : PacketReport) → slice_get reports at ≡ Some r → (has report_cmp log r ≡ false) × IsRefusedFor fault log r)

-- how an absorb ended
abbrev pub outcome_of : Result ℕ AbsorbFault → Outcome
outcome_of (Ok n) = Appended n
outcome_of (Err (Gap origin have from)) = Refused (gap origin have from)
outcome_of (Err (Forked origin at)) = Refused (forked_at origin at)
outcome_of (Err (OwnAhead have said)) = Refused (own_ahead have said)
outcome_of (Err (stopped_at taken cause)) = Stopped taken

-- why an absorb stopped, where it did
abbrev pub cause_of : Result ℕ AbsorbFault → Option LogFault
cause_of (Ok n) = None
cause_of (Err (Gap origin have from)) = None
cause_of (Err (Forked origin at)) = None
cause_of (Err (OwnAhead have said)) = None
cause_of (Err (stopped_at taken cause)) = Some cause

-- an absorb that stopped has the cause for which the log did not take the next new report, and others have none
abbrev pub IsCause : List PacketReport → List (ℕ × PacketReport) → Outcome → Option LogFault → Type 0
IsCause log new (Appended n) cause = cause ≡ None
IsCause log new (Refused fault) cause = cause ≡ None
IsCause log new (Stopped n) None = ⊥
IsCause log new (Stopped n) (Some fault) = (p : ℕ × PacketReport) → slice_get new n ≡ Some p → IsRefusedFor fault log p.1

-- a fault as why a run is refused
abbrev pub fault_view : Option AbsorbFault → Option Fault
fault_view None = None
fault_view (Some (Gap origin have from)) = Some (gap origin have from)
fault_view (Some (Forked origin at)) = Some (forked_at origin at)
fault_view (Some (OwnAhead have said)) = Some (own_ahead have said)
fault_view (Some (stopped_at taken cause)) = None

-- a fault that changes nothing
abbrev pub IsRefusal : AbsorbFault → Type 0
IsRefusal (Gap origin have from) = Unit {0}
IsRefusal (Forked origin at) = Unit {0}
IsRefusal (OwnAhead have said) = Unit {0}
IsRefusal (stopped_at taken cause) = ⊥

-- the first of these were appended, and not all; the next one the log did not take
abbrev pub IsStop : ReplicaView → ReplicaView → List (ℕ × PacketReport) → ℕ → LogFault → Type 0
IsStop old new pairs n cause = (n < length pairs) × (new ≡ appended old (take n pairs)) × ((p : ℕ × PacketReport) → slice_get pairs n ≡ Some p → IsRefusedFor cause new.log p.1)

-- an absorb that stopped did so before the next new report, which the log did not take
abbrev pub IsStopOf : ReplicaView → List (ℕ × PacketReport) → Result ℕ AbsorbFault → Type 0
IsStopOf new pairs (Ok n) = Unit {0}
IsStopOf new pairs (Err (Gap origin have from)) = Unit {0}
IsStopOf new pairs (Err (Forked origin at)) = Unit {0}
IsStopOf new pairs (Err (OwnAhead have said)) = Unit {0}
IsStopOf new pairs (Err (stopped_at n cause)) = (p : ℕ × PacketReport) → slice_get pairs n ≡ Some p → IsRefusedFor cause new.log p.1
