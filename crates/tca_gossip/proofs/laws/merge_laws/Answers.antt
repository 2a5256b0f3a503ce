use Rattle.tca_report.proofs.lemmas.report.Order.{report_eq}
use Rattle.tca_gossip.proofs.Exact.{alike_report, exact_report}
use Rattle.tca_gossip.proofs.MergeBounds.{clashes, joins, may, merge_above, merge_again, merge_associates, merge_commutes, merge_least, stays}
use Rattle.tca_gossip.proofs.laws.merge_laws.Goals as goal

pub returns : goal.returns
returns c = record {
  joins = joins report_eq alike_report exact_report;
  may = may report_eq alike_report exact_report;
  least_fault = clashes report_eq alike_report exact_report;
  stays = stays report_eq alike_report exact_report;
  commutes = merge_commutes;
  associates = merge_associates;
  again = merge_again;
  above = merge_above;
  least = merge_least;
}
