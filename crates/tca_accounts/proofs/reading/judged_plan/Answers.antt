use Rattle.std.proofs.lemmas.Grind.{common_steps}
use Rattle.std.proofs.Common.{◌≢◌, sym, arith}
use Rattle.std.proofs.lemmas.Result.{err_from_is_err_and, IfErr-at_err}
use Rattle.toml.specs.View.{items_view}
use Rattle.tca_accounts.specs.declared.fault.PlanFault.TheVariants as fault
use Rattle.tca_accounts.proofs.Memory.{plans}
use Rattle.tca_accounts.proofs.reading.judged_plan.Goals as goal

pub returns-in_err-check-in-Err-Memory-clause-last : goal.returns-in_err-check-in-Err-Memory-clause-last
returns-in_err-check-in-Err-Memory-clause-last c =
    let p = err_from_is_err_and c.from_residual.result c.from_residual.ensures.1 in
    rw (p.1, p.2) (λ e. absurd (IfErr-at_err (λ e. e ≢ fault.Memory) (sym c.in_err-check-in-Err-Memory.ensures) (plans (items_view c.args.values.now)) e))

pub returns-in_default : goal.returns-in_default
returns-in_default c = grind (arith, common_steps)

pub returns-in_default-2-clause-exact : goal.returns-in_default-2-clause-exact
returns-in_default-2-clause-exact c = grind (arith, common_steps)

pub returns-in_default-2-clause-last : goal.returns-in_default-2-clause-last
returns-in_default-2-clause-last c = grind (arith, common_steps)
