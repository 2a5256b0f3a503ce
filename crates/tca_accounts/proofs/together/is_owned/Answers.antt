use Rattle.std.proofs.Common.{◌∙◌, ◌||◌, arith, refl, ap}
use Rattle.std.specs.List.{list_any}
use Rattle.toml.specs.View.{items_view, view}
use Rattle.tca_accounts.specs.Plans.{owns, same_pair}
use Rattle.tca_accounts.specs.Documents.{account_in, pairs_of}
use Rattle.tca_accounts.proofs.AccountsTogether.{accounts_at, any_step, given}
use Rattle.tca_accounts.proofs.together.is_owned.Goals as goal

pub loop-value-preserved : goal.loop-value-preserved
loop-value-preserved c =
    let sought = c.args.sought in
    let first = account_in c.loop-value.account (view c.value-item.result) in
    let at = accounts_at c.args.values.now c.loop-value.value-index c.loop-value.account c.value-item.result (omega arith) c.value-item.is in
    let step = any_step (λ a. a.pairs) (list_any (same_pair sought)) (λ a. owns a sought) c.loop-value.found c.in_ok-found.field-0 first _ (pairs_of (items_view c.in_ok-pair_values.field-0.now)) (λ a. refl) c.in_ok-found.ensures c.in_ok-pair_values.ensures.exact in
    record {
      place = omega arith;
      decides = c.loop-value.invariant.decides ∙ ap (given (λ others. c.loop-value.found || list_any (λ a. owns a sought) others)) at ∙ step;
    }
