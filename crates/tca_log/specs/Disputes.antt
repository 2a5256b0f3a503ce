-- Which reports of a set dispute one another.
use Rattle.std.specs.Prelude.{◌==◌, Bool, if◌then◌else◌, List, [], ◌∷◌, length, filter, map, nat_lt, not}
use Rattle.std.specs.Ordering.{eq_by_cmp}
use Rattle.std.specs.declared.cmp.Ordering.{Ordering}
use Rattle.tca_join.specs.Sets.{has, in_order}
use Rattle.tca_report.specs.report.Reports.{PacketReport, report_cmp}
use Rattle.tca_report.specs.report.Identities.{identity_of, identity_cmp}
use Rattle.tca_report.specs.declared.report.Identity.{Identity}
use Rattle.tca_log.specs.declared.answer.Added.{Added}
use Rattle.tca_log.specs.declared.answer.Added.TheVariants.{Fresh, Repeat, NewDispute, MoreDispute}

-- two reports by their identities alone
abbrev pub by_identity_cmp : PacketReport → PacketReport → Ordering
by_identity_cmp a b = identity_cmp (identity_of a) (identity_of b)

-- whether a report has this identity
abbrev pub has_identity : Identity → PacketReport → Bool
has_identity i r = eq_by_cmp identity_cmp i (identity_of r)

-- the members with this identity
unfoldable pub contents : List PacketReport → Identity → List PacketReport
contents rs i = filter (has_identity i) rs

-- the members whose identity no other member has, in order
unfoldable pub undisputed : List PacketReport → List PacketReport
undisputed rs = filter (λ r. length (contents rs (identity_of r)) == 1) rs

-- the identities that two or more members have, in order
unfoldable pub disputed : List PacketReport → List Identity
disputed rs = filter (λ i. nat_lt 1 (length (contents rs i))) (in_order identity_cmp (map identity_of rs))

-- the reports whose identity is not among these
unfoldable pub settled_of : List Identity → List PacketReport → List PacketReport
settled_of disputed_identities rs = filter (λ r. not (has identity_cmp disputed_identities (identity_of r))) rs

-- what a new report is to the members with its identity
abbrev pub added_to : List PacketReport → Added
added_to [] = Fresh
added_to (q ∷ []) = NewDispute q
added_to (q ∷ p ∷ qs) = MoreDispute

-- what a report is to a set
unfoldable pub added : List PacketReport → PacketReport → Added
added rs r = if has report_cmp rs r then Repeat else added_to (contents rs (identity_of r))
