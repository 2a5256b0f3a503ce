use Rattle.std.proofs.Common.{◌≡◌, ◌∙◌, Option, List, ap, subst}
use Rattle.std.specs.Prelude.{IfSome}
use Rattle.tca_join.specs.Sets.{in_order}
use Rattle.tca_join.proofs.Merge.{in_order_of_rising}
use Rattle.tca_join.proofs.Sets.{rises_in_order}
use Rattle.tca_report.specs.report.Reports.{PacketReport, report_cmp}
use Rattle.tca_report.proofs.lemmas.report.Order.{report_total, report_exact}
use Rattle.tca_commands.proofs.answers.set_or_list.Goals as goal

pub returns-in-Some : goal.returns-in-Some
returns-in-Some c =
    let list = c.args.list in
    let set : c.in-Some.set ≡ in_order report_cmp list = subst (λ (o : Option (List PacketReport)). IfSome o (λ s. s ≡ in_order report_cmp list)) c.in-Some.is c.in_ok-set.ensures.set in
    ap (in_order report_cmp) set ∙ in_order_of_rising report_cmp report_total report_exact (in_order report_cmp list) (rises_in_order report_cmp report_total list)
