use Rattle.std.proofs.Common.{◌≡◌, ◌≢◌, ℕ, List, length, Err, ap, refl, sym, ◌∙◌, rules}
use Rattle.std.specs.Prelude.{slice_get}
use Rattle.std.specs.List.{enumerate_from}
use Rattle.std.proofs.lemmas.List.{length-map}
use Rattle.std.proofs.lemmas.List.FromFn.{length-enumerate_from}
use Rattle.tca_report.specs.declared.export.ExportFault.{ExportFault}
use Rattle.tca_report.specs.declared.export.ExportFault.TheVariants as export
use Rattle.tca_report.proofs.lemmas.export.FirstFaults.{never_memory, same_export}
use Rattle.tca_accounts.specs.Plans.{PlannedAccount}
use Rattle.tca_accounts.specs.Bills.{bill_of, coloured_in, reports_of, tally_of}
use Rattle.tca_statements.specs.Statements.{statement_text, statement_under}
use Rattle.tca_audit.specs.Audits.{IsVerdict}
use Rattle.tca_audit.specs.declared.verdict.Verdict.{Verdict}
use Rattle.tca_audit.specs.declared.verdict.Verdict.TheVariants as verdict
use Rattle.tca_accounts.specs.declared.bill.Bill.{Bill}
use Rattle.tca_audit.specs.declared.fault.AuditFault.TheVariants as fault
use Rattle.tca_audit.proofs.check.audit_under.Goals as goal

pub returns-in-Err-Memory-clause-refused : goal.returns-in-Err-Memory-clause-refused
returns-in-Err-Memory-clause-refused c = λ f wrong.
    let e = c.in-Err-Memory.ensures.refused f wrong in
    let same = same_export c.in-Err-Memory.field-0 f e in
    absurd (never_memory c.args.export.now f wrong (cc (same, c.in-Err-Memory.field-0-is)))

pub returns-in-Err : goal.returns-in-Err
returns-in-Err c =
    let other : c.in-Err.fault ≢ export.Memory = search rules in
    record {
      ok = tt;
      err = c.in-Err.ensures.first other;
      refused = λ f wrong. ap (λ (g : ExportFault). Err (fault.Export g)) (same_export c.in-Err.fault f (c.in-Err.ensures.refused f wrong));
      agrees = λ reports spelled same. absurd (other (c.in-Err.ensures.only reports spelled));
    }

pub returns-in_err-bill-clause-refused : goal.returns-in_err-bill-clause-refused
returns-in_err-bill-clause-refused c = λ f wrong. let e = c.in-Ok.ensures.refused f wrong in absurd cc

pub text_of-requires : goal.text_of-requires
text_of-requires c =
    let plan = c.args.plan.now in
    ap (λ (b : Bill). length b.accounts) c.in_ok-bill.ensures ∙ length-map (enumerate_from 0 plan.accounts) (λ (a : ℕ × PlannedAccount). tally_of plan.period (coloured_in a.1 (reports_of plan a.0 c.deref.result.now))) ∙ length-enumerate_from 0 plan.accounts

pub returns-in_err-text-clause-refused : goal.returns-in_err-text-clause-refused
returns-in_err-text-clause-refused c = λ f wrong. let e = c.in-Ok.ensures.refused f wrong in absurd cc

pub returns-clause-refused : goal.returns-clause-refused
returns-clause-refused c = λ f wrong. let e = c.in-Ok.ensures.refused f wrong in absurd cc

-- a text that is the one that it has to be has no first difference
agrees_with : (text statement : List ℕ) (found : Verdict) → IsVerdict text statement found → statement ≡ text → found ≡ verdict.Agrees
agrees_with text statement verdict.Agrees is same = refl
agrees_with text statement (verdict.Differs at) is same = absurd (is.differ (ap (λ (l : List ℕ). slice_get l at) (sym same)))

pub returns-clause-agrees : goal.returns-clause-agrees
returns-clause-agrees c = λ reports spelled same.
    let plan = c.args.plan.now in
    let read : c.deref.result.now ≡ reports = c.deref.ensures.value ∙ c.in-Ok.ensures.only reports spelled in
    let due : c.deref-2.result.now ≡ statement_under plan reports =
    c.deref-2.ensures.value ∙ c.in_ok-text.ensures ∙ ap (statement_text plan) (c.in_ok-bill.ensures ∙ ap (bill_of plan) read) in
    agrees_with c.deref-2.result.now c.args.statement.now c.compared.result c.compared.ensures (same ∙ sym due)

pub returns-in-Err-Memory-clause-err : goal.returns-in-Err-Memory-clause-err
returns-in-Err-Memory-clause-err c = search rules

pub returns-in-Err-Memory-clause-agrees : goal.returns-in-Err-Memory-clause-agrees
returns-in-Err-Memory-clause-agrees c = search rules
