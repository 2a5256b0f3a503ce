-- A call that stopped as full left a log at its limit.
use Rattle.std.proofs.Common.{◌≡◌, ℕ, suc, zero, ◌<◌, Option, None, Some, Result, Ok, Err, List, [], ◌∷◌, length, slice_get, refl, arith}
use Rattle.tca_report.specs.report.Reports.{PacketReport}
use Rattle.tca_log.specs.declared.fault.LogFault.{LogFault}
use Rattle.tca_log.specs.declared.fault.LogFault.TheVariants.{Full, Memory}
use Rattle.tca_gossip.specs.Runs.{RunView, IsOutcome, rests}
use Rattle.tca_gossip.specs.Replicas.{ReplicaView}
use Rattle.tca_gossip.specs.Answers.{IsStopAt, IsStopOf, outcome_of, cause_of}
use Rattle.tca_gossip.specs.declared.fault.AbsorbFault.{AbsorbFault}
use Rattle.tca_gossip.specs.declared.fault.AbsorbFault.TheVariants.{Gap, Forked, OwnAhead, Stopped}
use Rattle.tca_ingest.specs.Journals.{IsFullAtLimit}

there : {A : Type 0} (xs : List A) (i : ℕ) → i < length xs → (x : A) × (slice_get xs i ≡ Some x)
there [] i h = absurd (omega arith)
there (x ∷ xs) zero h = (x, refl)
there (x ∷ xs) (suc i) h = there xs i (omega arith)

pub take_full : (log reports : List PacketReport) (at : ℕ) (stop : Option LogFault) → IsStopAt log reports at stop → IsFullAtLimit stop log
take_full log reports at None stops is = absurd cc
take_full log reports at (Some Full) stops is = let next = there reports at stops.0 in (stops.1 next.0 next.1).1.0
take_full log reports at (Some Memory) stops is = absurd cc

pub absorb_full : (name : ℕ) (held : ℕ → List PacketReport) (runs : List RunView) (w : ReplicaView) (result : Result ℕ AbsorbFault) → IsOutcome name held runs (outcome_of result) → IsStopOf w (rests held runs) result → IsFullAtLimit (cause_of result) w.log
absorb_full name held runs w (Ok count) outcome stops is = absurd cc
absorb_full name held runs w (Err (Gap origin have from)) outcome stops is = absurd cc
absorb_full name held runs w (Err (Forked origin at)) outcome stops is = absurd cc
absorb_full name held runs w (Err (OwnAhead have said)) outcome stops is = absurd cc
absorb_full name held runs w (Err (Stopped count Full)) outcome stops is = let next = there (rests held runs) count outcome.1 in (stops next.0 next.1).0
absorb_full name held runs w (Err (Stopped count Memory)) outcome stops is = absurd cc
