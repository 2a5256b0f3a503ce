-- Refusals of an audit under a plan, as refusals with the text of the plan.
use Rattle.std.proofs.Common.{◌≡◌, ◌∙◌, ℕ, List, Result, Ok, Err, false, ap, refl, inl, inr}
use Rattle.std.specs.Prelude.{IfErr}
use Rattle.tca_accounts.specs.Plans.{AccountPlan}
use Rattle.tca_audit.specs.Audits.{IsRefused, IsRefusedUnder}
use Rattle.tca_audit.specs.declared.fault.AuditFault.{AuditFault}
use Rattle.tca_audit.specs.declared.fault.AuditFault.TheVariants.{Plan, Export, Memory}
use Rattle.tca_program.specs.declared.fault.RunFault.{RunFault}
use Rattle.tca_commands.specs.Audited.{IsAuditUnmade, IsPlanUnread, IsUnmadeUnder}
use Rattle.tca_program.specs.Unions.{audit_refusal, is_write}
use Rattle.tca_accounts.specs.Documents.{IsPlanOf}

no_write : (fault : AuditFault) → is_write (audit_refusal fault) ≡ false
no_write (Plan f) = refl
no_write (Export f) = refl
no_write Memory = refl

with_text : (text octets : List ℕ) (plan : AccountPlan) → IsPlanOf text plan → (fault : AuditFault) → IsRefusedUnder octets fault → IsRefused text octets fault
with_text text octets plan named (Plan f) h = absurd h
with_text text octets plan named (Export f) h = ((plan, named), h)
with_text text octets plan named Memory h = tt

-- a plan that wasn't read
pub unread : (text octets : List ℕ) (e : RunFault) → IsPlanUnread text e → IsAuditUnmade text octets e
unread text octets e (inl faulty) = record { fault = Plan faulty.0; refused = faulty.1; named = faulty.2; no_write = ap is_write faulty.2 }
unread text octets e (inr short) = record { fault = Memory; refused = tt; named = short; no_write = ap is_write short }

-- a plan that was read, and no verdict under it
pub unmade : {A : Type 0} → (text octets : List ℕ) (plan : AccountPlan) → IsPlanOf text plan → (r : Result A RunFault) → IfErr r (IsUnmadeUnder octets) → IfErr r (IsAuditUnmade text octets)
unmade text octets plan named (Ok x) h = tt
unmade text octets plan named (Err e) h = record { fault = h.fault; refused = with_text text octets plan named h.fault h.refused; named = h.named; no_write = ap is_write h.named ∙ no_write h.fault }
