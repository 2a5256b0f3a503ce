-- What the command `audit` prints, and what it is refused for.
use Rattle.std.specs.Prelude.{◌≡◌, ◌⊎◌, ℕ, Bool, true, false, List}
use Rattle.tca_accounts.specs.declared.fault.PlanFault.{PlanFault}
use Rattle.tca_audit.specs.Audits.{IsAudited, IsFaultyPlan, IsRefused, IsRefusedUnder}
use Rattle.tca_audit.specs.declared.fault.AuditFault.{AuditFault}
use Rattle.tca_audit.specs.declared.fault.AuditFault.TheVariants as fault
use Rattle.tca_audit.specs.declared.verdict.Verdict.{Verdict}
use Rattle.tca_audit.specs.declared.verdict.Verdict.TheVariants.{Agrees, Differs}
use Rattle.tca_program.specs.declared.fault.RunFault.{RunFault}
use Rattle.tca_program.specs.Devices.{Device, IsCutOff, Receives}
use Rattle.tca_commands.specs.Texts.{audit_text}
use Rattle.tca_program.specs.Outcomes.{IsCommandRefused}
use Rattle.tca_program.specs.Unions.{audit_refusal, is_write, memory_refusal}

-- whether a verdict is that the statement agrees
abbrev pub is_agreement : Verdict → Bool
is_agreement Agrees = true
is_agreement (Differs at) = false

-- a text isn't read as a plan: it has this fault, or memory ran out as it was read
abbrev pub IsPlanUnread : List ℕ → RunFault → Type 0
IsPlanUnread text e = ((f : PlanFault) × IsFaultyPlan text f × (e ≡ audit_refusal (fault.Plan f))) ⊎ (e ≡ memory_refusal)

-- Why there is no verdict once the plan was read: the fault of the export, or want of memory, which is told only where the export has
-- none.
pub record IsUnmadeUnder (export : List ℕ) (e : RunFault) : Type 0 where
  pub fault : AuditFault
  pub refused : IsRefusedUnder export fault
  pub named : e ≡ audit_refusal fault

-- The statement was audited, the line of the verdict was written, and the answer is whether it agrees.
pub record IsAuditDone (plan export statement : List ℕ) (old new : Device) (agrees : Bool) : Type 0 where
  pub verdict : Verdict
  pub audited : IsAudited plan export statement verdict
  pub written : Receives (audit_text verdict) old new
  pub answer : agrees ≡ is_agreement verdict

-- Of the line only a part went out.
pub record IsAuditCutOff (plan export statement : List ℕ) (old new : Device) : Type 0 where
  pub verdict : Verdict
  pub audited : IsAudited plan export statement verdict
  pub part : IsCutOff (audit_text verdict) old new

-- Why there is no verdict: the fault of the plan, or where it has none that of the export, unless memory ran out.
pub record IsAuditUnmade (plan export : List ℕ) (e : RunFault) : Type 0 where
  pub fault : AuditFault
  pub refused : IsRefused plan export fault
  pub named : e ≡ audit_refusal fault
  pub no_write : is_write e ≡ false

-- what a refusal is, and what it leaves of the device
abbrev pub IsAuditRefused : (plan export statement : List ℕ) → Device → Device → RunFault → Type 0
IsAuditRefused plan export statement = IsCommandRefused (IsAuditUnmade plan export) (IsAuditCutOff plan export statement)
