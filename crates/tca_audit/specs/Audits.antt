-- What an audit finds: whether the octets of a statement are those that the plan and the reports of an export call for.
use Rattle.std.specs.Prelude.{◌≡◌, ◌≢◌, ◌≤◌, ℕ, List, length, take, slice_get, IsUtf8, Err, ⊤}
use Rattle.toml.specs.Parse.{parse_document}
use Rattle.tca_report.specs.report.Reports.{PacketReport}
use Rattle.tca_report.specs.export.Spelling.{IsExport}
use Rattle.tca_report.specs.export.FirstFaults.{IsFaultyExport}
use Rattle.tca_accounts.specs.Plans.{AccountPlan}
use Rattle.tca_accounts.specs.Documents.{IsPlanOf, plan_in}
use Rattle.tca_accounts.specs.declared.fault.PlanFault.{PlanFault}
use Rattle.tca_accounts.specs.declared.fault.PlanFault.TheVariants as plan_fault
use Rattle.tca_statements.specs.Statements.{statement_under}
use Rattle.tca_audit.specs.declared.verdict.Verdict.{Verdict}
use Rattle.tca_audit.specs.declared.verdict.Verdict.TheVariants.{Agrees, Differs}
use Rattle.tca_audit.specs.declared.fault.AuditFault.{AuditFault}
use Rattle.tca_audit.specs.declared.fault.AuditFault.TheVariants as fault

-- Two texts agree in their first octets, so many of them, and no further: there one has an octet that the other hasn't, or
-- another one.
pub record FirstDiffer (a b : List ℕ) (at : ℕ) : Type 0 where
  pub inside_first : at ≤ length a
  pub inside_second : at ≤ length b
  pub same : take at a ≡ take at b
  pub differ : slice_get a at ≢ slice_get b at

-- the statement agrees with the text where it is that text, and differs at the first octet that isn't the text's
abbrev pub IsVerdict : List ℕ → List ℕ → Verdict → Type 0
IsVerdict text statement Agrees = statement ≡ text
IsVerdict text statement (Differs at) = FirstDiffer text statement at

-- The octets spell a list of reports as a log export, and the verdict on the statement is that of the plan's statement of them.
pub record IsAuditedUnder (plan : AccountPlan) (octets statement : List ℕ) (found : Verdict) : Type 0 where
  pub reports : List PacketReport
  pub spelled : IsExport octets reports
  pub verdict : IsVerdict (statement_under plan reports) statement found

-- The text is a plan, and the audit is that under this plan.
pub record IsAudited (text octets statement : List ℕ) (found : Verdict) : Type 0 where
  pub plan : AccountPlan
  pub named : IsPlanOf text plan
  pub audited : IsAuditedUnder plan octets statement found

-- Why a text is no plan: it isn't UTF-8, or this is the first fault of its document.
pub record IsFaultyPlan (text : List ℕ) (f : PlanFault) : Type 0 where
  pub apart : f ≢ plan_fault.Memory
  pub document : IsUtf8 text → plan_in (parse_document text) ≡ Err f
  pub no_text : ¬ IsUtf8 text → f ≡ plan_fault.Syntax

-- Why there is no verdict under a plan: the first fault of the export, or want of memory where it has none.
abbrev pub IsRefusedUnder : List ℕ → AuditFault → Type 0
IsRefusedUnder octets (fault.Plan f) = ⊥
IsRefusedUnder octets (fault.Export f) = IsFaultyExport octets f
IsRefusedUnder octets fault.Memory = (reports : List PacketReport) × IsExport octets reports

-- Why there is no verdict: the fault of the plan, or where it has none that of the export, unless memory ran out.
abbrev pub IsRefused : List ℕ → List ℕ → AuditFault → Type 0
IsRefused text octets (fault.Plan f) = IsFaultyPlan text f
IsRefused text octets (fault.Export f) = ((plan : AccountPlan) × IsPlanOf text plan) × IsFaultyExport octets f
IsRefused text octets fault.Memory = ⊤
