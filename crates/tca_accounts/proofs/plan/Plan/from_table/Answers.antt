use Rattle.std.proofs.Common.{◌≡◌, ◌<◌, ◌⊎◌, inl, inr, rules, length}
use Rattle.toml.specs.View.{table_view}
use Rattle.tca_accounts.proofs.PlanOfTable.{IsRead, plan_of-limits, plan_of-some}
use Rattle.tca_accounts.proofs.plan.Plan.from_table.Goals as goal
use Rattle.tca_accounts.proofs.plan.Plan.from_table.Goals.{then-is_empty-via-then-is_empty, then-is_empty-via-else-is_empty+then-values-gt-MOST_ACCOUNTS}

pub returns-then-is_empty-clause-exact : goal.returns-then-is_empty-clause-exact
returns-then-is_empty-clause-exact c =
    let vs = c.in_ok-values.values.now in
    let read : IsRead (table_view c.args.table.now) c.in_ok-period.period vs = record { known = search rules; time = search rules; accounts = search rules } in
    let out : (length vs ≡ 0) ⊎ (256 < length vs) =
    elim c.then-is_empty.branch [
      | then-is_empty-via-then-is_empty w ↦ inl (search rules)
      | then-is_empty-via-else-is_empty+then-values-gt-MOST_ACCOUNTS w ↦ inr (search rules)
    ] in
    λ e. plan_of-limits (table_view c.args.table.now) c.in_ok-period.period vs read out

pub returns-clause-exact : goal.returns-clause-exact
returns-clause-exact c =
    let vs = c.in_ok-values.values.now in
    let read : IsRead (table_view c.args.table.now) c.in_ok-period.period vs = record { known = search rules; time = search rules; accounts = search rules } in
    let some : 0 < length vs = search rules in
    rw (plan_of-some (table_view c.args.table.now) c.in_ok-period.period vs read some (search rules)) c.judged_plan.ensures.exact

pub returns-clause-last : goal.returns-clause-last
returns-clause-last c =
    let vs = c.in_ok-values.values.now in
    let read : IsRead (table_view c.args.table.now) c.in_ok-period.period vs = record { known = search rules; time = search rules; accounts = search rules } in
    let some : 0 < length vs = search rules in
    rw (plan_of-some (table_view c.args.table.now) c.in_ok-period.period vs read some (search rules)) c.judged_plan.ensures.last
