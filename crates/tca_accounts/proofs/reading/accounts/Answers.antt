use Rattle.std.proofs.lemmas.Grind.{common_steps}
use Rattle.std.proofs.Common.{◌≡◌, ◌∙◌, ◌++◌, Ok, arith, rules, ap, sym, length, List, drop, ◌+◌}
use Rattle.std.proofs.lemmas.List.{length_push}
use Rattle.toml.specs.View.{items_view, view}
use Rattle.tca_join.specs.Results.{◌>>=◌}
use Rattle.tca_accounts.specs.Plans.{PlannedAccount}
use Rattle.tca_accounts.specs.Documents.{account_in, accounts_from}
use Rattle.tca_accounts.proofs.AccountsOfValues.{list_step}
use Rattle.tca_accounts.proofs.reading.accounts.Goals as goal

pub loop-value-preserved : goal.loop-value-preserved
loop-value-preserved c =
    let vs = c.args.values.now in
    let i = c.loop-value.value-index in
    let a = c.in_ok-account-in-Ok.field-0 in
    let place : c.len.result ≡ i = search rules in
    let read : account_in i (view c.value-item.result) ≡ Ok a = ap (λ n. account_in n (view c.value-item.result)) (sym place) ∙ sym c.in-Ok.ensures.exact ∙ c.in_ok-account-in-Ok.ensures in
    let pushed = c.in_ok-push-in-Ok.ensures.items in
    let step = list_step vs i c.value-item.result c.loop-value.list.items a (omega arith) c.value-item.is read in
    record {
      count = ap length pushed ∙ omega (arith, length_push c.loop-value.list.items a);
      decides =
          c.loop-value.invariant.decides ∙ step ∙ ap (λ (done : List PlannedAccount). accounts_from (i + 1) (items_view (drop (i + 1) vs)) >>= λ rest. Ok (done ++ rest)) (sym pushed);
    }

pub returns-in_err-account-in-Ok-clause-exact : goal.returns-in_err-account-in-Ok-clause-exact
returns-in_err-account-in-Ok-clause-exact c = grind (arith, common_steps)

pub returns-in_err-account-in-Ok-clause-count : goal.returns-in_err-account-in-Ok-clause-count
returns-in_err-account-in-Ok-clause-count c = grind (arith, common_steps)

pub returns-in_err-push-in-Ok-clause-exact : goal.returns-in_err-push-in-Ok-clause-exact
returns-in_err-push-in-Ok-clause-exact c = grind (arith, common_steps)

pub returns-in_err-push-in-Ok-clause-count : goal.returns-in_err-push-in-Ok-clause-count
returns-in_err-push-in-Ok-clause-count c = grind (arith, common_steps)

pub returns-in-Err-clause-exact : goal.returns-in-Err-clause-exact
returns-in-Err-clause-exact c = grind (arith, common_steps)

pub returns-in-Err-clause-count : goal.returns-in-Err-clause-count
returns-in-Err-clause-count c = grind (arith, common_steps)

pub returns-clause-exact : goal.returns-clause-exact
returns-clause-exact c = grind (arith, common_steps)

pub returns-clause-count : goal.returns-clause-count
returns-clause-count c = grind (arith, common_steps)
