-- What holds of replicas of a world, whatever its machine did.
use Rattle.std.specs.Prelude.{◌≡◌, ℕ, Some, List, slice_get}
use Rattle.std.specs.List.{AllByRecursion}
use Rattle.tca_join.specs.Maps.{Rises}
use Rattle.tca_join.specs.Sets.{has}
use Rattle.tca_report.specs.report.Reports.{PacketReport, report_cmp}
use Rattle.tca_accounts.specs.Bills.{bill_of}
use Rattle.tca_gossip.specs.Replicas.{ReplicaView, IsReplica, chain_of, appended, with_origin, merged_with}
use Rattle.tca_gossip.specs.Runs.{RunView, AreRuns, delta_of, first_fault}
use Rattle.tca_gossip.specs.Machines.{Machine, IsWorld, IsPart, IsGapFault, Shows, held_prefix, joined, took}
use Rattle.tca_gossip.specs.Steps.{in_log, AreAnswer}
use Rattle.tca_gossip.specs.Coupling.{WorldView, IsCoupled, counts_of}

-- runs that are parts of what was sent have at most the fault that they start past what a name holds
abbrev pub SentRunsMayGap : Type 0
SentRunsMayGap = (m : Machine) (world : IsWorld m) (n : ℕ) (runs : List RunView) → AllByRecursion (IsPart m) runs
    → IsGapFault (first_fault n (held_prefix m n) runs)

-- what was new goes to the end of the own chain, as the machine has it
abbrev pub TakeShowsTook : Type 0
TakeShowsTook = (m : Machine) (world : IsWorld m) (n : ℕ) (v : ReplicaView) (fresh : List PacketReport) (o : ℕ) → Shows m n v → Rises v.chains
    → chain_of (appended v (with_origin v.name fresh)) o ≡ held_prefix (took m n fresh) n o

-- a merge has of each origin the longer chain, as the machine has it
abbrev pub MergeShowsJoined : Type 0
MergeShowsJoined = (m : Machine) (world : IsWorld m) (n k : ℕ) (v w : ReplicaView) (o : ℕ) → Shows m n v → Shows m k w → Rises v.chains → Rises w.chains
    → chain_of (merged_with v w) o ≡ held_prefix (joined m n k) n o

-- replicas that hold equally much of each origin have one log
abbrev pub EqualCountsShowEqualLogs : Type 0
EqualCountsShowEqualLogs = (m : Machine) (n k : ℕ) (v w : ReplicaView) → IsReplica v → IsReplica w → Shows m n v → Shows m k w
    → ((o : ℕ) → m.held n o ≡ m.held k o) → v.log ≡ w.log

-- a replica's log is the set that the machine has under its name
abbrev pub LogIsShown : Type 0
LogIsShown = (m : Machine) (n : ℕ) (v : ReplicaView) → IsWorld m → IsReplica v → Shows m n v → (q : PacketReport) → has report_cmp v.log q ≡ in_log m n q

-- a delta for counts is the answer that the machine gives to them
abbrev pub DeltaIsAnswer : Type 0
DeltaIsAnswer = (m : Machine) (n : ℕ) (v : ReplicaView) (said counts : ℕ → ℕ) → IsWorld m → IsReplica v → Shows m n v → ((o : ℕ) → said o ≡ counts o)
    → AreRuns (delta_of said v.chains) → AreAnswer m n counts (delta_of said v.chains)

-- runs that are parts of what was sent have at most the fault that they start past a replica's chains
abbrev pub ShownRunsMayGap : Type 0
ShownRunsMayGap = (m : Machine) (n : ℕ) (v : ReplicaView) (runs : List RunView) → IsWorld m → Shows m n v → AllByRecursion (IsPart m) runs
    → IsGapFault (first_fault n (chain_of v) runs)

-- replicas at two places that hold equally much of each origin have one log
abbrev pub EqualCountsMakeEqualLogs : Type 0
EqualCountsMakeEqualLogs = (m : Machine) (w : WorldView) (i j : ℕ) (v u : ReplicaView) → IsCoupled m w → slice_get w.replicas i ≡ Some v → slice_get w.replicas j ≡ Some u
    → ((o : ℕ) → m.held v.name o ≡ m.held u.name o) → v.log ≡ u.log

-- a replica's plan is the world's
abbrev pub PlanIsTheWorlds : Type 0
PlanIsTheWorlds = (m : Machine) (w : WorldView) (i : ℕ) (v : ReplicaView) → IsCoupled m w → slice_get w.replicas i ≡ Some v → v.plan ≡ w.plan

-- replicas that hold equally much of each origin have one bill
abbrev pub EqualCountsMakeEqualBills : Type 0
EqualCountsMakeEqualBills = (m : Machine) (w : WorldView) (i j : ℕ) (v u : ReplicaView) → IsCoupled m w → slice_get w.replicas i ≡ Some v → slice_get w.replicas j ≡ Some u
    → ((o : ℕ) → m.held v.name o ≡ m.held u.name o) → bill_of v.plan v.log ≡ bill_of u.plan u.log

-- replicas whose summaries are equal have one log and one bill
abbrev pub EqualSummariesMakeEqualBills : Type 0
EqualSummariesMakeEqualBills = (m : Machine) (w : WorldView) (i j : ℕ) (v u : ReplicaView) → IsCoupled m w → slice_get w.replicas i ≡ Some v → slice_get w.replicas j ≡ Some u
    → counts_of v.chains ≡ counts_of u.chains → (v.log ≡ u.log) × (bill_of v.plan v.log ≡ bill_of u.plan u.log)
