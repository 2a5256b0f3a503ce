use Rattle.std.proofs.Common.{◌+◌, ◌≤◌, length, subst, sym, ap, ◌∙◌}
use Rattle.tca_report.specs.report.Identities.{identity_cmp, identity_total}
use Rattle.tca_log.specs.inside.Logs.{index_cmp}
use Rattle.tca_log.specs.Rows.Ordered.{without_each, AreApart}
use Rattle.tca_log.proofs.OrderedRows.Each.{undone_all}
use Rattle.tca_log.proofs.union.put_additions.Goals as goal

pub put_all-requires-clause-apart : goal.put_all-requires-clause-apart
put_all-requires-clause-apart g c = subst (λ n. AreApart identity_cmp n.newly_disputed c.args.disputed.now.rows) (sym c.additions.view_is) c.requires.apart_disputed

pub put_all-requires-clause-few : goal.put_all-requires-clause-few
put_all-requires-clause-few g c = subst (λ n. length c.args.disputed.now.rows + length n.newly_disputed ≤ 4194304) (sym c.additions.view_is) c.requires.few_disputed

pub take_all-requires-clause-apart : goal.take_all-requires-clause-apart
take_all-requires-clause-apart g c = subst (λ n. AreApart index_cmp n.fresh c.args.index.now.rows) (sym c.additions.view_is) c.requires.apart

pub take_all-requires-clause-few : goal.take_all-requires-clause-few
take_all-requires-clause-few g c = subst (λ n. length c.args.index.now.rows + length n.fresh ≤ 4194304) (sym c.additions.view_is) c.requires.few

pub returns-in-Err-clause-err_disputed : goal.returns-in-Err-clause-err_disputed
returns-in-Err-clause-err_disputed g c =
    let apart = subst (λ n. AreApart identity_cmp n.newly_disputed c.args.disputed.now.rows) (sym c.additions.view_is) c.requires.apart_disputed in
    c.withdraw_all.ensures ∙ ap (without_each identity_cmp c.additions.inside.newly_disputed.rows) c.in_ok-put_all.ensures.ok ∙ undone_all identity_cmp identity_total c.additions.inside.newly_disputed.rows c.args.disputed.now.rows apart
