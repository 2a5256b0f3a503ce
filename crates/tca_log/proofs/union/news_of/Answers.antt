use Rattle.std.proofs.Common.{arith}
use Rattle.tca_report.specs.report.Reports.{report_cmp}
use Rattle.tca_report.proofs.lemmas.report.Order.{report_total}
use Rattle.tca_log.proofs.OrderedRows.Each.{beyond_whole}
use Rattle.tca_log.proofs.union.news_of.Goals as goal

pub returns-then-new-len-clause-news : goal.returns-then-new-len-clause-news
returns-then-new-len-clause-news g c =
    let whole = beyond_whole report_cmp report_total c.args.rows.now.rows c.args.set.items (omega (arith, c.if-new-len.true, c.len.ensures, c.requires.new)) in
    rw whole c.of_ascending.ensures.rows
