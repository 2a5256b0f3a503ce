use Rattle.std.proofs.lemmas.Grind.{common_steps}
use Rattle.std.proofs.Common.{◌∙◌, ◌+◌, ◌&&◌, arith, ap, sym, drop, subst}
use Rattle.std.specs.Result.{IsOk}
use Rattle.std.proofs.lemmas.Result.{err_from_is_err_and}
use Rattle.toml.specs.View.{items_view, view}
use Rattle.tca_accounts.specs.Documents.{account_in, accounts_from, pairs_of}
use Rattle.tca_accounts.specs.inside.Readings.{differ_from, pairs_differ}
use Rattle.tca_accounts.proofs.AccountsTogether.{accounts_at, behind, given, others_ok, pairs_fault, pairs_step}
use Rattle.tca_accounts.proofs.together.pairs_differ.Goals as goal

pub returns-in_err-differ : goal.returns-in_err-differ
returns-in_err-differ c =
    let vs = c.args.values.now in
    let i = c.loop-value.value-index in
    let n = c.loop-value.next in
    let v = c.value-item.result in
    let pairs = c.in_ok-pairs.pairs.now in
    let at = accounts_at vs i n v (omega arith) c.value-item.is in
    let p = err_from_is_err_and c.from_residual-in_err-differ.result c.from_residual-in_err-differ.ensures.1 in
    let here = c.in_err-differ.ensures ∙ ap (λ rest. differ_from (n + 1) (items_view rest) (items_view pairs)) (behind vs i n c.loop-value.invariant.place) in
    let all = pairs_fault (λ all. c.loop-value.differ && pairs_differ all) _ (account_in n (view v)) (accounts_from (n + 1) (items_view (drop (i + 1) vs))) (pairs_of (items_view pairs)) c.in_ok-pairs.ensures.exact here in
    rw (p.1, p.2) (all ∙ sym (c.loop-value.invariant.decides ∙ ap (given (λ all. c.loop-value.differ && pairs_differ all)) at))

pub loop-value-preserved : goal.loop-value-preserved
loop-value-preserved c =
    let vs = c.args.values.now in
    let i = c.loop-value.value-index in
    let n = c.loop-value.next in
    let v = c.value-item.result in
    let pairs = c.in_ok-pairs.pairs.now in
    let at = accounts_at vs i n v (omega arith) c.value-item.is in
    let here = c.in_ok-differ.ensures ∙ ap (λ rest. differ_from (n + 1) (items_view rest) (items_view pairs)) (behind vs i n c.loop-value.invariant.place) in
    let step = pairs_step c.loop-value.differ c.in_ok-differ.field-0 (account_in n (view v)) (accounts_from (n + 1) (items_view (drop (i + 1) vs))) (pairs_of (items_view pairs)) c.in_ok-pairs.ensures.exact here in
    record {
      place = omega arith;
      all = others_ok (account_in n (view v)) _ (subst IsOk at c.loop-value.invariant.all);
      decides = c.loop-value.invariant.decides ∙ ap (given (λ all. c.loop-value.differ && pairs_differ all)) at ∙ step;
    }

pub returns-in_err-pairs : goal.returns-in_err-pairs
returns-in_err-pairs c = grind (arith, common_steps)

pub returns : goal.returns
returns c = grind (arith, common_steps)
