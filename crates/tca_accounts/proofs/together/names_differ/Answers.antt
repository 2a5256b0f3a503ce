use Rattle.std.proofs.lemmas.Grind.{common_steps}
use Rattle.std.proofs.Common.{◌∙◌, ◌+◌, ◌&&◌, arith, ap, sym, drop}
use Rattle.std.specs.List.{list_any}
use Rattle.std.specs.Str.{bytes_eq}
use Rattle.std.proofs.lemmas.Result.{err_from_is_err_and}
use Rattle.toml.specs.View.{items_view, view}
use Rattle.tca_accounts.specs.Documents.{account_in, accounts_from}
use Rattle.tca_accounts.specs.inside.Readings.{names_differ, of_accounts}
use Rattle.tca_accounts.proofs.AccountsTogether.{accounts_at, behind, given, later_fault, names_step}
use Rattle.tca_accounts.proofs.together.names_differ.Goals as goal

pub returns-in_err-differ : goal.returns-in_err-differ
returns-in_err-differ c =
    let vs = c.args.values.now in
    let i = c.loop-value.value-index in
    let n = c.loop-value.next in
    let v = c.value-item.result in
    let name = c.in_ok-name.name.now in
    let at = accounts_at vs i n v (omega arith) c.value-item.is in
    let p = err_from_is_err_and c.from_residual-in_err-differ.result c.from_residual-in_err-differ.ensures.1 in
    let named = c.in_err-differ.ensures ∙ ap (λ rest. of_accounts (list_any (λ a. bytes_eq name a.name)) (n + 1) (items_view rest)) (behind vs i n c.loop-value.invariant.place) in
    let all = later_fault (λ a. a.name) (λ all. c.loop-value.differ && names_differ all) (list_any (λ a. bytes_eq name a.name)) _ name (account_in n (view v)) (accounts_from (n + 1) (items_view (drop (i + 1) vs))) c.in_ok-name.ensures named in
    rw (p.1, p.2) (all ∙ sym (c.loop-value.invariant.decides ∙ ap (given (λ all. c.loop-value.differ && names_differ all)) at))

pub loop-value-preserved : goal.loop-value-preserved
loop-value-preserved c =
    let vs = c.args.values.now in
    let i = c.loop-value.value-index in
    let n = c.loop-value.next in
    let v = c.value-item.result in
    let name = c.in_ok-name.name.now in
    let at = accounts_at vs i n v (omega arith) c.value-item.is in
    let named = c.in_ok-differ.ensures ∙ ap (λ rest. of_accounts (list_any (λ a. bytes_eq name a.name)) (n + 1) (items_view rest)) (behind vs i n c.loop-value.invariant.place) in
    let step = names_step c.loop-value.differ c.in_ok-differ.field-0 name (account_in n (view v)) (accounts_from (n + 1) (items_view (drop (i + 1) vs))) c.in_ok-name.ensures named in
    record {
      place = omega arith;
      decides = c.loop-value.invariant.decides ∙ ap (given (λ all. c.loop-value.differ && names_differ all)) at ∙ step;
    }

pub returns-in_err-name : goal.returns-in_err-name
returns-in_err-name c = grind (arith, common_steps)

pub returns : goal.returns
returns c = grind (arith, common_steps)
