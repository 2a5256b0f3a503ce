use Rattle.std.proofs.Common.{◌≡◌, ◌∙◌, ◌++◌, false, rules, ap}
use Rattle.std.specs.Option.{is_some}
use Rattle.tca_join.proofs.Merge.{in_order_of_rising}
use Rattle.tca_join.specs.Sets.{in_order}
use Rattle.tca_report.specs.report.Reports.{report_cmp}
use Rattle.tca_report.proofs.lemmas.report.Order.{report_total, report_exact}
use Rattle.tca_commands.proofs.Walking.{none_left, walk_all, walk_more}
use Rattle.tca_commands.proofs.replicated.are_log.Goals as goal

pub loop-reports-preserved : goal.loop-reports-preserved
loop-reports-preserved c =
    let l = c.loop-reports in
    walk_more c.args.lists.now l.reports-index c.reports-item.result c.args.log.now l.left c.come_next.new.left c.loop-reports-test.true c.reports-item.is l.invariant (c.come_next.ensures.next c.if-not-come_next.false ∙ ap (λ rs. rs ++ c.come_next.new.left) c.as_slice.ensures)

pub returns-clause-chained : goal.returns-clause-chained
returns-clause-chained c ended =
    let l = c.loop-reports in
    let none : is_some c.next.result ≡ false = search rules in
    walk_all c.args.lists.now l.reports-index c.args.log.now l.left c.loop-reports-test.false l.invariant (none_left (λ x. x.now) c.next.result l.left c.next.new.self c.next.ensures.steps none)

pub returns-clause-union : goal.returns-clause-union
returns-clause-union c ended =
    let l = c.loop-reports in
    let none : is_some c.next.result ≡ false = search rules in
    let all = walk_all c.args.lists.now l.reports-index c.args.log.now l.left c.loop-reports-test.false l.invariant (none_left (λ x. x.now) c.next.result l.left c.next.new.self c.next.ensures.steps none) in
    ap (in_order report_cmp) all ∙ in_order_of_rising report_cmp report_total report_exact c.args.log.now c.reports-left.ensures.rises
