use Rattle.std.proofs.Common.{◌≡◌, ap, ◌∙◌, arith}
use Rattle.tca_report.specs.report.Reports.{report_cmp}
use Rattle.tca_report.proofs.lemmas.report.Order.{report_total}
use Rattle.tca_log.specs.Rows.Ordered.{without_each}
use Rattle.tca_log.proofs.OrderedRows.Each.{undone_all}
use Rattle.tca_log.proofs.Uniting.{additions, few_fresh, few_newly_disputed, united_log}
use Rattle.tca_log.proofs.union.take_with_index.Goals as goal

pub put_additions-requires-clause-apart : goal.put_additions-requires-clause-apart
put_additions-requires-clause-apart g c =
    let t = c.in_ok-additions.ensures in
    (additions c.args.rows.now.rows c.args.index.now.rows c.args.disputed.now.rows c.args.news.rows t.0 c.in_ok-additions.additions c.requires.log t.1 t.2).apart

pub put_additions-requires-clause-few : goal.put_additions-requires-clause-few
put_additions-requires-clause-few g c =
    let t = c.in_ok-additions.ensures in
    omega (arith, few_fresh c.args.rows.now.rows c.args.index.now.rows c.args.disputed.now.rows c.args.news.rows t.0 c.in_ok-additions.additions c.requires.log t.1 t.2, c.requires.log.fewer, c.requires.few)

pub put_additions-requires-clause-apart_disputed : goal.put_additions-requires-clause-apart_disputed
put_additions-requires-clause-apart_disputed g c =
    let t = c.in_ok-additions.ensures in
    (additions c.args.rows.now.rows c.args.index.now.rows c.args.disputed.now.rows c.args.news.rows t.0 c.in_ok-additions.additions c.requires.log t.1 t.2).apart_disputed

pub put_additions-requires-clause-few_disputed : goal.put_additions-requires-clause-few_disputed
put_additions-requires-clause-few_disputed g c =
    let t = c.in_ok-additions.ensures in
    omega (arith, few_newly_disputed c.args.rows.now.rows c.args.index.now.rows c.args.disputed.now.rows c.args.news.rows t.0 c.in_ok-additions.additions c.requires.log t.1 t.2, c.requires.log.fewer_disputed, c.requires.few)

pub returns-in-Err-clause-err : goal.returns-in-Err-clause-err
returns-in-Err-clause-err g c = c.withdraw_all.ensures ∙ ap (without_each report_cmp c.args.news.rows) c.in_ok-put_all.ensures.ok ∙ undone_all report_cmp report_total c.args.news.rows c.args.rows.now.rows c.requires.apart

pub returns-in-Err-clause-log : goal.returns-in-Err-clause-log
returns-in-Err-clause-log g c =
    let rows : c.withdraw_all.new.self.rows ≡ c.args.rows.now.rows = c.withdraw_all.ensures ∙ ap (without_each report_cmp c.args.news.rows) c.in_ok-put_all.ensures.ok ∙ undone_all report_cmp report_total c.args.news.rows c.args.rows.now.rows c.requires.apart in
    rw (rows, c.in-Err.ensures.err, c.in-Err.ensures.err_disputed) c.requires.log

pub returns-clause-log : goal.returns-clause-log
returns-clause-log g c =
    let t = c.in_ok-additions.ensures in
    rw (c.in_ok-put_all.ensures.ok, c.in_default.ensures.index, c.in_default.ensures.disputed) (united_log c.args.rows.now.rows c.args.index.now.rows c.args.disputed.now.rows c.args.news.rows t.0 c.in_ok-additions.additions c.requires.log t.1 t.2 c.requires.rises c.requires.apart c.requires.few)
