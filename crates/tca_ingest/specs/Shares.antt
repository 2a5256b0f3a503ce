-- What contracts see of a replica that is shared, and what a call on it does.
use Rattle.std.specs.Prelude.{◌≡◌, ◌≢◌, ◌⊎◌, ◌≤◌, ◌↔◌, ℕ, Option, None, Result, List, [], ◌∷◌, ◌++◌, length, take}
use Rattle.tca_report.specs.report.Reports.{PacketReport}
use Rattle.tca_log.specs.declared.fault.LogFault.{LogFault}
use Rattle.tca_accounts.specs.Plans.{AccountPlan}
use Rattle.tca_accounts.specs.Bills.{bill_of}
use Rattle.tca_accounts.specs.declared.bill.Bill.{Bill}
use Rattle.tca_gossip.specs.Replicas.{ReplicaView, new_replica, chain_of}
use Rattle.tca_gossip.specs.Runs.{RunView, IsOutcome, delta_of, rests, summary_count}
use Rattle.tca_gossip.specs.Coupling.{counts_of}
use Rattle.tca_gossip.specs.Answers.{IsStopAt, IsStopOf, outcome_of}
use Rattle.tca_gossip.specs.declared.fault.AbsorbFault.{AbsorbFault}
use Rattle.tca_ingest.specs.Entries.{EntryView, Took, Absorbed, Answered, Asked, Sent, pass_of}
use Rattle.tca_ingest.specs.Journals.{AreRight, after, after_entry, own, part}
use Rattle.tca_ingest.specs.Passes.{PassView}

-- a replica, the journal of the calls on it, and how many passes were made
pub record HeldView : Type 0 where
  pub replica : ReplicaView
  pub journal : List EntryView
  pub passes : ℕ

-- how many passes there may be
abbrev pub most_passes : ℕ
most_passes = 65536

-- the parts of a replica's ledger: one for each pass, and one that stays
abbrev pub ledger_parts : ℕ
ledger_parts = 65537

-- how many entries a journal may have
abbrev pub most_entries : ℕ
most_entries = 1048576

abbrev pub new_held : AccountPlan → ℕ → HeldView
new_held plan name = record { replica = new_replica plan name; journal = []; passes = 0 }

abbrev pub with_call : PassView → EntryView → PassView
with_call p e = record { number = p.number; calls = p.calls ++ e ∷ [] }

-- a call adds just this entry, to the journal and to the list of its pass, and does to the replica what the entry says; front is how
-- long the journal is then
pub record Appends (old new : HeldView) (mine mine' : PassView) (e : EntryView) (front : ℕ) : Type 0 where
  pub journal : new.journal ≡ old.journal ++ e ∷ []
  pub replica : new.replica ≡ after_entry old.replica e
  pub passes : new.passes ≡ old.passes
  pub calls : mine' ≡ with_call mine e
  pub whose : pass_of e ≡ mine.number
  pub front_is : front ≡ length new.journal
  pub within : length mine'.calls ≤ front

-- what is known of it where others may call in between: the list of the pass, and that the journal has at least as many entries
pub record IsNoted (mine mine' : PassView) (e : EntryView) (front : ℕ) : Type 0 where
  pub calls : mine' ≡ with_call mine e
  pub whose : pass_of e ≡ mine.number
  pub within : length mine'.calls ≤ front

-- the entry of a take: the first of the reports, all of them exactly where it did not stop
pub record IsTake (reports : List PacketReport) (number : ℕ) (e : EntryView) : Type 0 where
  pub taken : ℕ
  pub fresh : ℕ
  pub stop : Option LogFault
  pub entry : e ≡ Took number (take taken reports) fresh stop
  pub within : taken ≤ length reports
  pub whole : (stop ≡ None) ↔ (taken ≡ length reports)

-- and why it stopped, by the log as it is then
pub record IsTakeInto (log reports : List PacketReport) (number : ℕ) (e : EntryView) : Type 0 where
  pub taken : ℕ
  pub fresh : ℕ
  pub stop : Option LogFault
  pub entry : e ≡ Took number (take taken reports) fresh stop
  pub within : taken ≤ length reports
  pub stops : IsStopAt log reports taken stop

-- the entry of an absorb, with the delta's runs
abbrev pub IsAbsorb : List RunView → ℕ → EntryView → Type 0
IsAbsorb runs number e = (result : Result ℕ AbsorbFault) × (e ≡ Absorbed number runs result)

-- and what the replica answered: as much as is new in the runs, or the first of it, or the first fault
pub record IsAbsorbInto (old new : ReplicaView) (runs : List RunView) (number : ℕ) (e : EntryView) : Type 0 where
  pub result : Result ℕ AbsorbFault
  pub entry : e ≡ Absorbed number runs result
  pub outcome : IsOutcome old.name (chain_of old) runs (outcome_of result)
  pub stop : IsStopOf new (rests (chain_of old) runs) result

-- the entry of a statement, of a summary, and of a delta for a summary
abbrev pub IsStatement : ℕ → EntryView → Type 0
IsStatement number e = (bill : Bill) × (e ≡ Answered number bill)

abbrev pub IsSummaryEntry : ℕ → EntryView → Type 0
IsSummaryEntry number e = (summary : List (ℕ × ℕ)) × (e ≡ Asked number summary)

abbrev pub IsDelta : List (ℕ × ℕ) → ℕ → EntryView → Type 0
IsDelta since number e = (delta : List RunView) × (e ≡ Sent number since delta)

-- and what they say of a replica that nobody else uses meanwhile
abbrev pub statement_of : ReplicaView → ℕ → EntryView
statement_of v number = Answered number (bill_of v.plan v.log)

abbrev pub summary_of : ReplicaView → ℕ → EntryView
summary_of v number = Asked number (counts_of v.chains)

abbrev pub delta_since : ReplicaView → List (ℕ × ℕ) → ℕ → EntryView
delta_since v since number = Sent number since (delta_of (summary_count since) v.chains)

-- What a journal says of its replica: the name, the plan, the log, the own chain, those of the other origins, and the bill; and each
-- entry is right.
pub record IsReplayed (plan : AccountPlan) (name : ℕ) (v : ReplicaView) (journal : List EntryView) : Type 0 where
  pub name_is : v.name ≡ name
  pub plan_is : v.plan ≡ plan
  pub log : v.log ≡ after name journal
  pub own_chain : chain_of v name ≡ own name journal
  pub parts : (origin : ℕ) → origin ≢ name → chain_of v origin ≡ part name journal origin
  pub bill : bill_of v.plan v.log ≡ bill_of plan (after name journal)
  pub right : AreRight plan name journal

-- an exchange: a summary of the one, the delta of the other for it, and the runs of that, absorbed by the one
pub record IsExchange (mine mine' theirs theirs' : PassView) (e : EntryView) (front : ℕ) : Type 0 where
  pub summary : List (ℕ × ℕ)
  pub delta : List RunView
  pub result : Result ℕ AbsorbFault
  pub calls : mine' ≡ with_call (with_call mine (Asked mine.number summary)) (Absorbed mine.number delta result)
  pub others : theirs' ≡ with_call theirs (Sent theirs.number summary delta)
  pub entry : e ≡ Absorbed mine.number delta result
  pub within : length mine'.calls ≤ front

-- how far an exchange came that was refused: not at all, to the summary, or to the delta
abbrev pub IsPartOfExchange : PassView → PassView → PassView → PassView → Type 0
IsPartOfExchange mine mine' theirs theirs' =
    ((mine' ≡ mine) × (theirs' ≡ theirs)) ⊎ ((summary : List (ℕ × ℕ)) × (mine' ≡ with_call mine (Asked mine.number summary))
    × ((theirs' ≡ theirs) ⊎ ((delta : List RunView) × (theirs' ≡ with_call theirs (Sent theirs.number summary delta)))))
