use Rattle.std.proofs.Common.{arith}
use Rattle.tca_report.specs.report.Reports.{report_cmp}
use Rattle.tca_report.proofs.lemmas.report.Order.{report_total, report_exact}
use Rattle.tca_log.proofs.Uniting.{union_length}
use Rattle.tca_log.proofs.log.Log.count_new.Goals as goal

pub returns-clause-count : goal.returns-clause-count
returns-clause-count g c =
    let size = union_length report_cmp report_total report_exact c.self.inside.rows.rows c.args.set.now c.self.invariant.rises c.requires in
    rw (← c.self.view_is) (omega (arith, size, c.count_new.ensures))
