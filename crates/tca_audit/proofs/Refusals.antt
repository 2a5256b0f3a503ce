-- A refusal under a plan, as one with its text.
use Rattle.std.proofs.Common.{ℕ, List, Result, Ok, Err}
use Rattle.std.specs.Prelude.{IfErr}
use Rattle.tca_accounts.specs.Plans.{AccountPlan}
use Rattle.tca_audit.specs.Audits.{IsRefused, IsRefusedUnder}
use Rattle.tca_audit.specs.declared.fault.AuditFault.{AuditFault}
use Rattle.tca_audit.specs.declared.fault.AuditFault.TheVariants.{Plan, Export, Memory}
use Rattle.tca_audit.specs.declared.verdict.Verdict.{Verdict}
use Rattle.tca_accounts.specs.Documents.{IsPlanOf}

pub refused_with_text : (text octets : List ℕ) (plan : AccountPlan) → IsPlanOf text plan → (r : Result Verdict AuditFault) → IfErr r (IsRefusedUnder octets) → IfErr r (IsRefused text octets)
refused_with_text text octets plan named (Ok v) h = tt
refused_with_text text octets plan named (Err (Plan f)) h = absurd h
refused_with_text text octets plan named (Err (Export f)) h = ((plan, named), h)
refused_with_text text octets plan named (Err Memory) h = tt
