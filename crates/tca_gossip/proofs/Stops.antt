-- Why a take or an absorb stops before a report.
use Rattle.std.proofs.Common.{◌≡◌, ◌⊎◌, ℕ, suc, zero, ◌<◌, Bool, true, false, nat_lt, Option, None, Some, Result, Ok, Err, is_some, IfSome, List, [], ◌∷◌, length, slice_get, refl, sym, ◌∙◌, arith, inl, inr}
use Rattle.std.proofs.lemmas.Bool.{lt-ltb, le-ltb, false≢true}
use Rattle.tca_report.specs.report.Reports.{PacketReport, report_cmp}
use Rattle.tca_join.specs.Sets.{has}
use Rattle.tca_log.specs.declared.fault.LogFault.{LogFault}
use Rattle.tca_log.specs.declared.fault.LogFault.TheVariants.{Full, Memory}
use Rattle.tca_gossip.specs.declared.fault.AbsorbFault.{AbsorbFault}
use Rattle.tca_gossip.specs.declared.fault.AbsorbFault.TheVariants.{Gap, Forked, OwnAhead, Stopped as stopped_at}
use Rattle.tca_gossip.specs.Replicas.{ReplicaView}
use Rattle.tca_gossip.specs.Runs.{Outcome, Appended, Stopped, Refused}
use Rattle.tca_gossip.specs.Answers.{IsCause, IsRefusedFor, IsStopAt, IsStopOf, cause_of, outcome_of}
use Rattle.tca_gossip.specs.Steps.{HasCause, IsSetOf, IsStopWith, IsUntaken}

there : (reports : List PacketReport) (i : ℕ) → i < length reports → (r : PacketReport) × (slice_get reports i ≡ Some r)
there [] i h = absurd (omega arith)
there (r ∷ rs) zero h = (r, refl)
there (r ∷ rs) (suc i) h = there rs i (omega arith)

-- it stops just where not all reports were gone through
pub stops_there : (log reports : List PacketReport) (at : ℕ) (stop : Option LogFault) → IsStopAt log reports at stop → is_some stop ≡ nat_lt at (length reports)
stops_there log reports at None h = sym (le-ltb at (length reports) (omega (arith, h)))
stops_there log reports at (Some fault) h = sym (lt-ltb at (length reports) h.0)

pub not_held : (log reports : List PacketReport) (at : ℕ) (stop : Option LogFault) → IsStopAt log reports at stop → is_some stop ≡ true → (r : PacketReport) → slice_get reports at ≡ Some r → has report_cmp log r ≡ false
not_held log reports at None h some r e = absurd cc
not_held log reports at (Some fault) h some r e = (h.1 r e).0

-- there is room where the report that it stopped before isn't held
has_room : (log : List PacketReport) (r : PacketReport) → has report_cmp log r ≡ false → (length log < 4194304) ⊎ (has report_cmp log r ≡ true) → length log < 4194304
has_room log r none (inl room) = room
has_room log r none (inr held) = absurd (false≢true (sym none ∙ held))

-- and the set of what is held is full, or has room
pub stop_with : (log reports : List PacketReport) (at : ℕ) (stop : Option LogFault) (held : PacketReport → Bool) → IsSetOf held log → IsStopAt log reports at stop → IfSome stop (IsStopWith held)
stop_with log reports at None held is h = tt
stop_with log reports at (Some Full) held is h = let found = there reports at h.0 in let why : IsRefusedFor Full log found.0 = (h.1 found.0 found.1).1 in (log, is, why.0)
stop_with log reports at (Some Memory) held is h = let found = there reports at h.0 in (log, is, has_room log found.0 (h.1 found.0 found.1).0 (h.1 found.0 found.1).1)

no_room : (log : List PacketReport) (held : PacketReport → Bool) (r : PacketReport) → IsSetOf held log → (length log < 4194304) ⊎ (has report_cmp log r ≡ true) → IsUntaken held r Memory
no_room log held r is (inl room) = inr (log, is, room)
no_room log held r is (inr there) = inl (sym (is.same r) ∙ there)

untaken : (log : List PacketReport) (held : PacketReport → Bool) (r : PacketReport) (fault : LogFault) → IsSetOf held log → IsRefusedFor fault log r → IsUntaken held r fault
untaken log held r Full is h = (sym (is.same r) ∙ h.1, (log, is, h.0))
untaken log held r Memory is h = no_room log held r is h

-- the cause of an absorb, by what is held then
pub has_cause : (log : List PacketReport) (held : PacketReport → Bool) (new : List (ℕ × PacketReport)) (outcome : Outcome) (cause : Option LogFault) → IsSetOf held log → IsCause log new outcome cause → HasCause held new outcome cause
has_cause log held new (Appended n) cause is h = h
has_cause log held new (Refused fault) cause is h = h
has_cause log held new (Stopped n) None is h = h
has_cause log held new (Stopped n) (Some fault) is h = λ p e. untaken log held p.1 fault is (h p e)

-- what an absorb answers has its cause
pub cause_is : (u : ReplicaView) (new : List (ℕ × PacketReport)) (result : Result ℕ AbsorbFault) → IsStopOf u new result → IsCause u.log new (outcome_of result) (cause_of result)
cause_is u new (Ok n) h = refl
cause_is u new (Err (Gap origin have from)) h = refl
cause_is u new (Err (Forked origin at)) h = refl
cause_is u new (Err (OwnAhead have said)) h = refl
cause_is u new (Err (stopped_at taken fault)) h = h
