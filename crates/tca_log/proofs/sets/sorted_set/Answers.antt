use Rattle.std.proofs.lemmas.List.Filters.{dedup_is}
use Rattle.tca_report.specs.report.Reports.{report_cmp}
use Rattle.tca_report.proofs.lemmas.report.Order.{report_total, report_exact, report_eq, same_report_is}
use Rattle.tca_log.proofs.Gathering.{set_is}
use Rattle.tca_log.proofs.sets.sorted_set.Goals as goal

pub returns : goal.returns
returns g c =
    set_is report_cmp report_total report_exact report_eq same_report_is c.args.reports.items c.sort_unstable.new.self.items c.dedup.new.self.items c.sort_unstable.ensures.permutation c.sort_unstable.ensures.sorted (dedup_is report_eq c.sort_unstable.new.self.items c.dedup.new.self.items c.dedup.ensures.filtered)
