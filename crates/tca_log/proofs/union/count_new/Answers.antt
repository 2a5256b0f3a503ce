use Rattle.std.proofs.lemmas.Grind.{common_steps}
use Rattle.std.proofs.Common.{List, length, ap, ◌∙◌, arith}
use Rattle.std.proofs.lemmas.List.{nil_from_length}
use Rattle.tca_report.specs.report.Reports.{PacketReport, report_cmp}
use Rattle.tca_report.proofs.lemmas.report.Order.{report_total}
use Rattle.tca_log.specs.Rows.Ordered.{without_each}
use Rattle.tca_log.proofs.OrderedRows.Each.{without_none}
use Rattle.tca_log.proofs.union.count_new.Goals as goal

pub returns-then-len-eq0 : goal.returns-then-len-eq0
returns-then-len-eq0 g c =
    let none = nil_from_length c.args.rows.now.rows (omega (arith, c.len.ensures.length, c.if-len-eq0.true)) in
    let same = ap (λ (l : List PacketReport). without_each report_cmp l c.args.set.now) none ∙ without_none report_cmp report_total c.args.set.now in
    omega (arith, ap length same)

pub count_beyond-requires-clause-rises : goal.count_beyond-requires-clause-rises
count_beyond-requires-clause-rises g c = grind (arith, common_steps)

pub count_beyond-requires-clause-number : goal.count_beyond-requires-clause-number
count_beyond-requires-clause-number g c = grind (arith, common_steps)

pub returns : goal.returns
returns g c = grind (arith, common_steps)
