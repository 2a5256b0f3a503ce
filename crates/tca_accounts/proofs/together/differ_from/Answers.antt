use Rattle.std.proofs.Common.{◌∙◌, ◌&&◌, arith, ap, sym, drop, ◌+◌}
use Rattle.std.specs.List.{list_any}
use Rattle.std.proofs.lemmas.Result.{err_from_is_err_and}
use Rattle.toml.specs.View.{items_view, view}
use Rattle.tca_join.specs.Results.{◌>>=◌}
use Rattle.tca_accounts.specs.Plans.{same_pair}
use Rattle.tca_accounts.specs.Documents.{pair_in, pairs_of}
use Rattle.tca_accounts.specs.inside.Readings.{differ_before, of_accounts, of_pairs}
use Rattle.tca_accounts.proofs.AccountsTogether.{behind, pairs_at, pairs_later_fault}
use Rattle.tca_accounts.proofs.together.differ_from.Goals as goal

pub returns-in_err-behind : goal.returns-in_err-behind
returns-in_err-behind c =
    let ks = c.args.pairs.now in
    let i = c.loop-value.value-index in
    let v = c.value-item.result in
    let sought = c.in_ok-sought.sought in
    let at = pairs_at ks i v (omega arith) c.value-item.is in
    let p = err_from_is_err_and c.from_residual-in_err-behind.result c.from_residual-in_err-behind.ensures.1 in
    let listed = c.in_err-behind.ensures ∙ ap (λ rest. of_pairs (list_any (same_pair sought)) (items_view rest)) (behind ks i c.loop-value.next c.loop-value.invariant.place) in
    let all = pairs_later_fault (λ pairs. of_accounts (λ others. c.loop-value.differ && differ_before others pairs) c.args.first (items_view c.args.values.now)) (list_any (same_pair sought)) _ sought (pair_in (view v)) (pairs_of (items_view (drop (i + 1) ks))) c.in_ok-sought.ensures listed in
    let back = c.loop-value.invariant.decides ∙ ap (λ r. r >>= λ pairs. of_accounts (λ others. c.loop-value.differ && differ_before others pairs) c.args.first (items_view c.args.values.now)) at in
    rw (p.1, p.2) (all ∙ sym back)
