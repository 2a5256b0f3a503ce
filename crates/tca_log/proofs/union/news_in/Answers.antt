use Rattle.tca_report.specs.report.Reports.{report_cmp}
use Rattle.tca_report.proofs.lemmas.report.Order.{report_total}
use Rattle.tca_join.proofs.Sets.{rises_in_order}
use Rattle.tca_log.proofs.union.news_in.Goals as goal

pub news_of-requires-clause-rises : goal.news_of-requires-clause-rises
news_of-requires-clause-rises g c = rw c.set_where-set.ensures (rises_in_order report_cmp report_total c.args.reports.items)

pub count_new-new-requires : goal.count_new-new-requires
count_new-new-requires g c = rw (c.deref.ensures.value, c.set_where-set.ensures) (rises_in_order report_cmp report_total c.args.reports.items)
