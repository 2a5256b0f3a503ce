use Rattle.std.proofs.Common.{◌∙◌, ◌||◌, Ok, arith, refl, ap}
use Rattle.std.specs.List.{list_any}
use Rattle.std.specs.Str.{bytes_eq}
use Rattle.toml.specs.View.{view}
use Rattle.tca_accounts.specs.Documents.{account_in}
use Rattle.tca_accounts.specs.inside.Readings.{named_in}
use Rattle.tca_accounts.proofs.AccountsTogether.{accounts_at, any_step, given}
use Rattle.tca_accounts.proofs.together.has_name.Goals as goal

pub loop-value-preserved : goal.loop-value-preserved
loop-value-preserved c =
    let name = c.args.name.now in
    let first = account_in c.loop-value.account (view c.value-item.result) in
    let at = accounts_at c.args.values.now c.loop-value.value-index c.loop-value.account c.value-item.result (omega arith) c.value-item.is in
    let step = any_step (λ a. a.name) (bytes_eq name) (λ a. bytes_eq name a.name) c.loop-value.found c.eq-found.result first _ (named_in c.loop-value.account (view c.value-item.result)) (λ a. refl) (ap Ok c.eq-found.ensures ∙ ap (given (bytes_eq name)) c.in_ok-other.ensures) refl in
    record {
      place = omega arith;
      decides = c.loop-value.invariant.decides ∙ ap (given (λ others. c.loop-value.found || list_any (λ a. bytes_eq name a.name) others)) at ∙ step;
    }
