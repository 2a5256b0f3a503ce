use Rattle.std.proofs.Common.{◌∙◌, Option, List, sym, subst}
use Rattle.std.specs.Prelude.{IfSome}
use Rattle.std.specs.List.Sorted.{IsStrictlySortedBy}
use Rattle.tca_join.specs.Alike.{AreAlike}
use Rattle.tca_join.proofs.Alike.{alike_rising}
use Rattle.tca_join.proofs.Merge.{in_order_of_rising}
use Rattle.tca_report.specs.report.Reports.{PacketReport, report_cmp}
use Rattle.tca_report.proofs.lemmas.report.Order.{report_total, report_exact}
use Rattle.tca_log.proofs.sets.set_beside.Goals as goal

pub returns-then-ascend-clause-set : goal.returns-then-ascend-clause-set
returns-then-ascend-clause-set g c =
    let list = c.args.list.now in
    let rises : IsStrictlySortedBy report_cmp list = subst (λ (rs : List PacketReport). IsStrictlySortedBy report_cmp rs) c.as_slice.ensures (c.ascend.ensures.rises c.if-ascend.true) in
    c.in_ok-share.ensures ∙ sym (in_order_of_rising report_cmp report_total report_exact list rises)

pub returns-then-ascend-2-clause-set : goal.returns-then-ascend-2-clause-set
returns-then-ascend-2-clause-set g c =
    let list = c.args.list.now in
    let other = c.in-Some.other in
    let alike : AreAlike list other = subst (λ (o : Option (List PacketReport)). IfSome o (λ rs. AreAlike list rs)) c.in-Some.is c.in_ok-other.ensures in
    let rises : IsStrictlySortedBy report_cmp other = subst (λ (rs : List PacketReport). IsStrictlySortedBy report_cmp rs) c.as_slice-2.ensures (c.ascend-2.ensures.rises c.if-ascend-2.true) in
    alike_rising report_cmp report_total report_exact list other alike rises
