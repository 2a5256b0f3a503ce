-- Only equal reports tie, and the code's equality of reports is that of their order.
use Rattle.std.proofs.Common.{◌≡◌, ℕ, Bool, refl, ap}
use Rattle.std.specs.Ordering.{nat_cmp, ordering_then, eq_by_cmp}
use Rattle.std.specs.Cmp.{IsTotalOrder}
use Rattle.std.proofs.lemmas.Map.Lookups.{CmpEqualImpliesEq, exact_pairs, exact_unsigned}
use Rattle.tca_report.specs.report.Reports as order
use Rattle.tca_report.specs.report.Reports.{PacketReport, report_cmp}
use Rattle.tca_report.specs.contracts.report.ReportPartialEq.TheImpl as reports

pub report_total : IsTotalOrder report_cmp
report_total = order.report_total

abbrev Fields : Type 0
Fields = ℕ × (ℕ × (ℕ × (ℕ × (ℕ × (ℕ × ℕ)))))

abbrev fields : PacketReport → Fields
fields r = (r.time, (r.domain, (r.session, (r.place, (r.octets, (r.dscp, r.iface))))))

abbrev report_of : Fields → PacketReport
report_of f = record { time = f.0; domain = f.1.0; session = f.1.1.0; place = f.1.1.1.0; octets = f.1.1.1.1.0; dscp = f.1.1.1.1.1.0; iface = f.1.1.1.1.1.1 }

exact_fields : CmpEqualImpliesEq (λ (x y : Fields). ordering_then (nat_cmp x.0 y.0) (ordering_then (nat_cmp x.1.0 y.1.0) (ordering_then (nat_cmp x.1.1.0 y.1.1.0) (ordering_then (nat_cmp x.1.1.1.0 y.1.1.1.0) (ordering_then (nat_cmp x.1.1.1.1.0 y.1.1.1.1.0) (ordering_then (nat_cmp x.1.1.1.1.1.0 y.1.1.1.1.1.0) (nat_cmp x.1.1.1.1.1.1 y.1.1.1.1.1.1)))))))
exact_fields = exact_pairs nat_cmp _ exact_unsigned (exact_pairs nat_cmp _ exact_unsigned (exact_pairs nat_cmp _ exact_unsigned (exact_pairs nat_cmp _ exact_unsigned (exact_pairs nat_cmp _ exact_unsigned (exact_pairs nat_cmp nat_cmp exact_unsigned exact_unsigned)))))

pub report_exact : CmpEqualImpliesEq report_cmp
report_exact a b h = ap report_of (exact_fields (fields a) (fields b) h)

-- two reports are equal to the code
abbrev pub report_eq : PacketReport → PacketReport → Bool
report_eq = reports.ghosts.eq

pub same_report_is : (a b : PacketReport) → report_eq a b ≡ eq_by_cmp report_cmp a b
same_report_is a b = refl
