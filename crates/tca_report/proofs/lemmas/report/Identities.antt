-- Only equal identities tie.
use Rattle.std.proofs.Common.{ℕ, ap}
use Rattle.std.specs.Ordering.{nat_cmp, ordering_then}
use Rattle.std.proofs.lemmas.Map.Lookups.{CmpEqualImpliesEq, exact_pairs, exact_unsigned}
use Rattle.tca_report.specs.report.Identities.{identity_cmp}

abbrev Fields : Type 0
Fields = ℕ × (ℕ × ℕ)

exact_fields : CmpEqualImpliesEq (λ (x y : Fields). ordering_then (nat_cmp x.0 y.0) (ordering_then (nat_cmp x.1.0 y.1.0) (nat_cmp x.1.1 y.1.1)))
exact_fields = exact_pairs nat_cmp _ exact_unsigned (exact_pairs nat_cmp nat_cmp exact_unsigned exact_unsigned)

pub identity_exact : CmpEqualImpliesEq identity_cmp
identity_exact a b h =
    ap (λ (p : Fields). record { domain = p.0; session = p.1.0; place = p.1.1 }) (exact_fields (a.domain, (a.session, a.place)) (b.domain, (b.session, b.place)) h)
