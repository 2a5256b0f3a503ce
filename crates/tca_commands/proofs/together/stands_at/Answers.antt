use Rattle.std.proofs.Common.{◌≡◌, ◌∙◌, Some, length, refl, ap, sym, arith}
use Rattle.std.proofs.lemmas.Option.{slice_get_read}
use Rattle.std.specs.Cmp.{Equal-is}
use Rattle.std.specs.declared.cmp.Ordering.TheVariants.{Equal}
use Rattle.tca_report.specs.report.Reports.{PacketReport, report_cmp}
use Rattle.tca_report.proofs.lemmas.report.Order.{report_exact}
use Rattle.tca_commands.proofs.together.stands_at.Goals as goal

pub returns : goal.returns
returns c same =
    let list = c.args.list.now in
    let item : PacketReport = c.index-list-at.result in
    let tied : report_cmp item c.args.report.now ≡ Equal = (Equal-is (report_cmp item c.args.report.now)).0 (sym c.eq.ensures ∙ same) in
    slice_get_read list (length list) c.args.at item refl (omega (arith, c.if-at-list.false)) c.index-list-at.is ∙ ap (λ (r : PacketReport). Some r) (report_exact item c.args.report.now tied)
