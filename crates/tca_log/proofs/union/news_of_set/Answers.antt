use Rattle.std.proofs.Common.{length, ap, arith}
use Rattle.tca_report.specs.report.Reports.{report_cmp}
use Rattle.tca_report.proofs.lemmas.report.Order.{report_total}
use Rattle.tca_log.proofs.OrderedRows.Each.{beyond_whole}
use Rattle.tca_log.proofs.union.news_of_set.Goals as goal

pub returns-then-new-list : goal.returns-then-new-list
returns-then-new-list g c =
    let whole = beyond_whole report_cmp report_total c.args.rows.now.rows c.args.set (omega (arith, c.if-new-list.true, ap length c.as_slice-list.ensures, c.requires.new)) in
    rw whole c.of_shared.ensures
