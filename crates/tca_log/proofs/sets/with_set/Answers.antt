use Rattle.std.proofs.Common.{◌≡◌, ◌∙◌, List, sym, ap, subst}
use Rattle.tca_join.specs.Alike.{AreAlike}
use Rattle.tca_join.specs.Sets.{in_order}
use Rattle.tca_join.proofs.Alike.{alike_in_order}
use Rattle.tca_report.specs.report.Reports.{PacketReport, report_cmp}
use Rattle.tca_report.proofs.lemmas.report.Order.{report_exact}
use Rattle.tca_log.proofs.sets.with_set.Goals as goal

pub beside-requires : goal.beside-requires
beside-requires g c =
    let list = c.args.list in
    let set : c.set_of.result.items ≡ in_order report_cmp list = c.set_of.ensures ∙ ap (in_order report_cmp) (c.in-Ok.ensures.items ∙ c.as_slice-2.ensures) in
    subst (λ (rs : List PacketReport). AreAlike list rs) (sym set) (alike_in_order report_cmp report_exact list)
