use Rattle.std.proofs.Common.{◌∙◌, ◌+◌, arith, length, ap, nat_le}
use Rattle.toml.specs.View.{view}
use Rattle.tca_accounts.specs.Plans.{all_pairs}
use Rattle.tca_accounts.specs.Documents.{account_in}
use Rattle.tca_accounts.proofs.AccountsTogether.{accounts_at, few_step, given, stops}
use Rattle.tca_accounts.proofs.together.has_few_pairs.Goals as goal

pub loop-value-preserved : goal.loop-value-preserved
loop-value-preserved c =
    let at = accounts_at c.args.values.now c.loop-value.value-index c.loop-value.account c.value-item.result (omega arith) c.value-item.is in
    let pairs = c.in_ok-pair_values.field-0.now in
    let step = few_step c.loop-value.count c.saturating_add-count.result pairs (account_in c.loop-value.account (view c.value-item.result)) _ c.in_ok-pair_values.ensures.exact c.in_ok-pair_values.ensures.ok (stops _ _ c.saturating_add-count.ensures) in
    record {
      place = omega arith;
      decides = c.loop-value.invariant.decides ∙ ap (given (λ others. nat_le (c.loop-value.count + length (all_pairs others)) 4096)) at ∙ step;
    }
