-- What a journal of calls says of the replica on which they were made, and of the passes that made them.
use Rattle.std.specs.Prelude.{◌≡◌, ◌≢◌, ◌↔◌, ◌⊎◌, true, ℕ, Option, Result, List, [], ◌∷◌, ◌++◌, length, take}
use Rattle.tca_report.specs.report.Reports.{PacketReport, report_cmp}
use Rattle.tca_join.specs.Sets.{has}
use Rattle.tca_log.specs.declared.fault.LogFault.{LogFault}
use Rattle.tca_accounts.specs.Plans.{AccountPlan}
use Rattle.tca_accounts.specs.Bills.{bill_of}
use Rattle.tca_accounts.specs.declared.bill.Bill.{Bill}
use Rattle.tca_gossip.specs.Replicas.{ReplicaView, new_replica, taken, chain_of, fresh_of, of}
use Rattle.tca_gossip.specs.Runs.{RunView, IsOutcome, absorbed, delta_of, rests, summary_count}
use Rattle.tca_gossip.specs.Coupling.{counts_of}
use Rattle.tca_gossip.specs.Answers.{IsStopAt, IsStopOf, outcome_of}
use Rattle.tca_gossip.specs.declared.fault.AbsorbFault.{AbsorbFault}
use Rattle.tca_ingest.specs.Entries.{EntryView, Took, Absorbed, Answered, Asked, Sent}
use Rattle.tca_ingest.specs.Journals.{IsHistory, IsRight, AreRight, lists, list_of, part, after, took_in, gained_by}
use Rattle.tca_ingest.specs.Passes.{IsSent, calls_of}
use Rattle.tca_ingest.specs.Closed.{AgreeAll}

-- the empty journal is the history of a new replica
abbrev pub StartsHistory : Type 0
StartsHistory = (plan : AccountPlan) (name : ℕ) → IsHistory plan name (new_replica plan name) []

-- a replica that took reports, as its `take` answers, has a history with one entry more
abbrev pub TakeGoesOn : Type 0
TakeGoesOn = (plan : AccountPlan) (name : ℕ) (v : ReplicaView) (journal : List EntryView) → IsHistory plan name v journal
    → (w : ReplicaView) (pass : ℕ) (reports : List PacketReport) (at fresh : ℕ) (stop : Option LogFault)
    → w ≡ taken v (take at reports) → fresh ≡ length (fresh_of v.log (take at reports)) → IsStopAt w.log reports at stop
    → IsHistory plan name w (journal ++ Took pass (take at reports) fresh stop ∷ [])

-- so has one that absorbed a delta, as its `absorb` answers
abbrev pub AbsorbGoesOn : Type 0
AbsorbGoesOn = (plan : AccountPlan) (name : ℕ) (v : ReplicaView) (journal : List EntryView) → IsHistory plan name v journal
    → (w : ReplicaView) (pass : ℕ) (runs : List RunView) (result : Result ℕ AbsorbFault)
    → w ≡ absorbed v runs (outcome_of result) → IsOutcome v.name (chain_of v) runs (outcome_of result) → IsStopOf w (rests (chain_of v) runs) result
    → IsHistory plan name w (journal ++ Absorbed pass runs result ∷ [])

-- so has one that was asked for its bill
abbrev pub BillGoesOn : Type 0
BillGoesOn = (plan : AccountPlan) (name : ℕ) (v : ReplicaView) (journal : List EntryView) → IsHistory plan name v journal
    → (pass : ℕ) (bill : Bill) → bill ≡ bill_of v.plan v.log
    → IsHistory plan name v (journal ++ Answered pass bill ∷ [])

-- so has one that was asked for its summary
abbrev pub SummaryGoesOn : Type 0
SummaryGoesOn = (plan : AccountPlan) (name : ℕ) (v : ReplicaView) (journal : List EntryView) → IsHistory plan name v journal
    → (pass : ℕ) (summary : List (ℕ × ℕ)) → summary ≡ counts_of v.chains
    → IsHistory plan name v (journal ++ Asked pass summary ∷ [])

-- so has one that was asked for what a summary lacks
abbrev pub DeltaGoesOn : Type 0
DeltaGoesOn = (plan : AccountPlan) (name : ℕ) (v : ReplicaView) (journal : List EntryView) → IsHistory plan name v journal
    → (pass : ℕ) (since : List (ℕ × ℕ)) (delta : List RunView) → delta ≡ delta_of (summary_count since) v.chains
    → IsHistory plan name v (journal ++ Sent pass since delta ∷ [])

-- a delta is right by a history just where it is what the replica has past the summary
abbrev pub DeltaIsRight : Type 0
DeltaIsRight = (plan : AccountPlan) (name : ℕ) (v : ReplicaView) (journal : List EntryView) → IsHistory plan name v journal
    → (pass : ℕ) (since : List (ℕ × ℕ)) (delta : List RunView)
    → IsRight plan name (lists name journal) (Sent pass since delta) ↔ (delta ≡ delta_of (summary_count since) v.chains)

-- a delta that a pass was sent is that of all entries before it
abbrev pub DeltaWasSent : Type 0
DeltaWasSent = (plan : AccountPlan) (name : ℕ) (journal calls rest : List EntryView) (number pass : ℕ) (since : List (ℕ × ℕ)) (delta : List RunView)
    → AreRight plan name journal → calls_of number journal ≡ calls ++ Sent pass since delta ∷ rest
    → IsSent name journal calls number pass since delta

-- replicas whose chains agree and are as long have one log
abbrev pub AgreeInLogs : Type 0
AgreeInLogs = (plan : AccountPlan) (n k : ℕ) (v w : ReplicaView) (mine other : List EntryView)
    → IsHistory plan n v mine → IsHistory plan k w other
    → AgreeAll v w → ((o : ℕ) → length (chain_of v o) ≡ length (chain_of w o))
    → v.log ≡ w.log

-- and one bill
abbrev pub AgreeInBills : Type 0
AgreeInBills = (plan : AccountPlan) (n k : ℕ) (v w : ReplicaView) (mine other : List EntryView)
    → IsHistory plan n v mine → IsHistory plan k w other
    → AgreeAll v w → ((o : ℕ) → length (chain_of v o) ≡ length (chain_of w o))
    → bill_of plan (after n mine) ≡ bill_of plan (after k other)

-- an absorb goes to the ends of the other origins' lists
abbrev pub AbsorbAddsToParts : Type 0
AbsorbAddsToParts = (name : ℕ) (journal : List EntryView) (pass : ℕ) (runs : List RunView) (result : Result ℕ AbsorbFault) (o : ℕ)
    → part name (journal ++ Absorbed pass runs result ∷ []) o
    ≡ part name journal o ++ of o (gained_by result (rests (list_of name (lists name journal)) runs))

-- all reports are those of takes and those of other origins' lists
abbrev pub LogHasTakesAndParts : Type 0
LogHasTakesAndParts = (plan : AccountPlan) (name : ℕ) (journal : List EntryView) (q : PacketReport)
    → AreRight plan name journal
    → (has report_cmp (after name journal) q ≡ true) ↔ ((has report_cmp (took_in journal) q ≡ true) ⊎ ((o : ℕ) × (o ≢ name) × (has report_cmp (part name journal o) q ≡ true)))
