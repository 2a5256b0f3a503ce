use Rattle.std.proofs.Common.{◌≤◌, length, ap, subst, sym, arith}
use Rattle.std.specs.List.Sorted.{IsStrictlySortedBy}
use Rattle.tca_report.specs.report.Reports.{report_cmp}
use Rattle.tca_report.proofs.lemmas.report.Order.{report_total}
use Rattle.tca_log.proofs.OrderedRows.Each.{rises_put_each, length-put_each}
use Rattle.tca_log.proofs.Repeats.{kept_alone}
use Rattle.tca_log.proofs.union.take_many.Goals as goal

pub disputes_of-requires : goal.disputes_of-requires
disputes_of-requires g c =
    omega (arith, ap length c.in_ok-all.ensures, length-put_each report_cmp report_total c.args.news.now.rows c.args.rows.now.rows c.requires.rises c.requires.apart, c.requires.few)

pub returns-clause-log : goal.returns-clause-log
returns-clause-log g c =
    let rises = subst (IsStrictlySortedBy report_cmp) (sym c.in_ok-all.ensures) (rises_put_each report_cmp report_total c.args.news.now.rows c.args.rows.now.rows c.requires.log.rises) in
    let few : length c.in_ok-all.all.rows ≤ 4194304 = omega (arith, ap length c.in_ok-all.ensures, length-put_each report_cmp report_total c.args.news.now.rows c.args.rows.now.rows c.requires.rises c.requires.apart, c.requires.few) in
    kept_alone c.in_ok-all.all.rows c.in_ok-disputed.field-0.rows rises few c.in_ok-disputed.ensures
