-- Reports that the code finds equal are one.
use Rattle.std.proofs.Common.{◌≡◌, true, sym, subst, ◌∙◌}
use Rattle.std.specs.Bool.{Decides}
use Rattle.std.specs.Cmp.{Equal-is}
use Rattle.tca_report.specs.report.Reports.{PacketReport, report_cmp}
use Rattle.tca_report.proofs.lemmas.report.Order.{report_exact, report_eq, same_report_is}
use Rattle.tca_gossip.proofs.Worlds.{same_itself}

pub exact_report : (x y : PacketReport) → report_eq x y ≡ true → x ≡ y
exact_report x y e = report_exact x y ((Equal-is (report_cmp x y)).0 (sym (same_report_is x y) ∙ e))

pub alike_report : (x : PacketReport) → report_eq x x ≡ true
alike_report x = same_report_is x x ∙ same_itself x

pub report_decides : (x y : PacketReport) → Decides (report_eq x y) (x ≡ y)
report_decides x y = (exact_report x y, λ same. subst (λ z. report_eq x z ≡ true) same (alike_report x))
