-- The identity of a report, and the order of identities.
use Rattle.std.specs.Ordering.{nat_cmp, ordering_then}
use Rattle.std.specs.Cmp.{IsTotalOrder, nat_cmp_total}
use Rattle.std.proofs.lemmas.Cmp.{on_total, then_total}
use Rattle.std.specs.declared.cmp.Ordering.{Ordering}
use Rattle.tca_report.specs.report.Reports.{PacketReport}
use Rattle.tca_report.specs.declared.report.Identity.{Identity}

-- the record that a report is of
abbrev pub identity_of : PacketReport → Identity
identity_of r = record { domain = r.domain; session = r.session; place = r.place }

-- by domain, session and place, each ascending
abbrev pub identity_cmp : Identity → Identity → Ordering
identity_cmp a b = ordering_then (nat_cmp a.domain b.domain) (ordering_then (nat_cmp a.session b.session) (nat_cmp a.place b.place))

-- that order is total
pub identity_total : IsTotalOrder identity_cmp
identity_total = then_total (on_total (λ i. i.domain) nat_cmp_total) (then_total (on_total (λ i. i.session) nat_cmp_total) (on_total (λ i. i.place) nat_cmp_total))
