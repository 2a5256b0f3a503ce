use Rattle.std.proofs.Common.{◌≢◌, refl, inl, rules}
use Rattle.tca_accounts.specs.declared.fault.PlanFault.TheVariants as plan_fault
use Rattle.tca_audit.proofs.Refusals.{refused_with_text}
use Rattle.tca_audit.proofs.check.audit.Goals as goal

pub returns-in-Ok-clause-err : goal.returns-in-Ok-clause-err
returns-in-Ok-clause-err c = refused_with_text c.args.plan.now c.args.export.now c.in-Ok.plan (record { utf8 = c.in-Ok.ensures.utf8; named = c.in-Ok.ensures.ok }) c.audit_under.result c.audit_under.ensures.err

pub returns-in-Ok-clause-refused : goal.returns-in-Ok-clause-refused
returns-in-Ok-clause-refused c = λ p f named wrong. rw (c.audit_under.ensures.refused f wrong) (inl refl)

pub returns-in-Err : goal.returns-in-Err
returns-in-Err c =
    let other : c.in-Err.fault ≢ plan_fault.Memory = search rules in
    record {
      ok = tt;
      err = record { apart = other; document = c.in-Err.ensures.fault other; no_text = c.in-Err.ensures.not_text other };
      refused = λ p f named wrong. let e = c.in-Err.ensures.fault other named.utf8 in let is = named.named in absurd cc;
      agrees = λ p reports named spelled same. let e = c.in-Err.ensures.fault other named.utf8 in let is = named.named in absurd cc;
    }

pub returns-in-Err-Memory-clause-err : goal.returns-in-Err-Memory-clause-err
returns-in-Err-Memory-clause-err c = search rules

pub returns-in-Err-Memory-clause-refused : goal.returns-in-Err-Memory-clause-refused
returns-in-Err-Memory-clause-refused c = search rules

pub returns-in-Err-Memory-clause-agrees : goal.returns-in-Err-Memory-clause-agrees
returns-in-Err-Memory-clause-agrees c = search rules
