use Rattle.std.proofs.lemmas.Grind.{common_steps}
use Rattle.std.proofs.Common.{◌<◌, ◌∙◌, rules, length, ap, arith}
use Rattle.std.proofs.lemmas.Result.{err_from_is_err_and}
use Rattle.toml.specs.View.{items_view, table_view}
use Rattle.tca_accounts.specs.declared.key.Key.TheVariants as key
use Rattle.tca_accounts.specs.Documents.{items_of}
use Rattle.tca_accounts.proofs.PairsOfValues.{fault_of-each, pairs_in-some}
use Rattle.tca_accounts.proofs.pairs.judged.Goals as goal

pub returns-in_err-judge-clause-exact : goal.returns-in_err-judge-clause-exact
returns-in_err-judge-clause-exact c =
    let vs = c.in_ok-values.values.now in
    let some : 0 < length vs = search rules in
    let p = err_from_is_err_and c.from_residual-in_err-judge.result c.from_residual-in_err-judge.ensures.1 in
    let here = pairs_in-some (table_view c.args.table.now) vs (c.in_ok-values.ensures ∙ ap (items_of key.Keys) c.at.ensures) some in
    rw (p.1, p.2) (fault_of-each (items_view vs) _ c.in_err-judge.ensures ∙ here)

pub returns-clause-exact : goal.returns-clause-exact
returns-clause-exact c =
    let vs = c.in_ok-values.values.now in
    let some : 0 < length vs = search rules in
    pairs_in-some (table_view c.args.table.now) vs (c.in_ok-values.ensures ∙ ap (items_of key.Keys) c.at.ensures) some

pub returns-in_err-values-clause-exact : goal.returns-in_err-values-clause-exact
returns-in_err-values-clause-exact c = grind (arith, common_steps)

pub returns-in_err-values-clause-ok : goal.returns-in_err-values-clause-ok
returns-in_err-values-clause-ok c = grind (arith, common_steps)

pub returns-then-is_empty-clause-exact : goal.returns-then-is_empty-clause-exact
returns-then-is_empty-clause-exact c = grind (arith, common_steps)

pub returns-then-is_empty-clause-ok : goal.returns-then-is_empty-clause-ok
returns-then-is_empty-clause-ok c = grind (arith, common_steps)

pub returns-in_err-judge-clause-ok : goal.returns-in_err-judge-clause-ok
returns-in_err-judge-clause-ok c = grind (arith, common_steps)

pub returns-clause-ok : goal.returns-clause-ok
returns-clause-ok c = grind (arith, common_steps)
