-- A log's set, with what is kept beside it, a content of each identity and the identities that are disputed: for its fields and their proofs alone.
use Rattle.std.specs.Prelude.{◌≡◌, ℕ, ◌≤◌, Bool, true, false, List, length, nat_lt, option_map, IfSome, Option, Some, None}
use Rattle.std.specs.List.{AllByRecursion}
use Rattle.std.specs.List.Sorted.{IsStrictlySortedBy}
use Rattle.std.specs.declared.cmp.Ordering.{Ordering}
use Rattle.tca_join.specs.Sets.{has, put}
use Rattle.tca_report.specs.report.Reports.{PacketReport, report_cmp, most_reports}
use Rattle.tca_report.specs.report.Identities.{identity_of, identity_cmp}
use Rattle.tca_report.specs.declared.report.Identity.{Identity}
use Rattle.tca_log.specs.declared.answer.Added.{Added}
use Rattle.tca_log.specs.declared.answer.Added.TheVariants.{Fresh, NewDispute, MoreDispute}
use Rattle.tca_log.specs.declared.by_identity.ByIdentity.{ByIdentity}
use Rattle.tca_log.specs.Rows.Ordered.{tied, Ordered}
use Rattle.tca_log.specs.Disputes.{by_identity_cmp, contents, disputed}

-- the order of the index
abbrev pub index_cmp : ByIdentity → ByIdentity → Ordering
index_cmp a b = by_identity_cmp a.report b.report

-- a report as a row of the index
abbrev pub indexed : PacketReport → ByIdentity
indexed r = record { report = r }

-- how many members an identity has
abbrev pub count_at : List PacketReport → Identity → ℕ
count_at rs i = length (contents rs i)

-- a log's three parts agree
pub record IsLog (rs : List PacketReport) (index : List ByIdentity) (disputed_identities : List Identity) : Type 0 where
  pub rises : IsStrictlySortedBy report_cmp rs
  pub limit : length rs ≤ most_reports
  pub known : (r : PacketReport) → has index_cmp index (indexed r) ≡ nat_lt 0 (count_at rs (identity_of r))
  pub among : AllByRecursion (λ b. has report_cmp rs b.report ≡ true) index
  pub disputed_are : disputed_identities ≡ disputed rs
  pub fewer : length index ≤ length rs
  pub fewer_disputed : length disputed_identities ≤ length rs

-- the rows of an index, where there is one
abbrev pub index_rows : Option (Ordered ByIdentity) → Option (List ByIdentity)
index_rows index = option_map (λ o. o.rows) index

-- a log's set and its disputed identities agree, and its index with both, where it has one
pub record IsKept (rs : List PacketReport) (index : Option (List ByIdentity)) (disputed_identities : List Identity) : Type 0 where
  pub rises : IsStrictlySortedBy report_cmp rs
  pub limit : length rs ≤ most_reports
  pub disputed_are : disputed_identities ≡ disputed rs
  pub fewer_disputed : length disputed_identities ≤ length rs
  pub indexed : IfSome index (λ ix. IsLog rs ix disputed_identities)

-- the content that the index has of a report's identity
abbrev pub first_of : List ByIdentity → PacketReport → Option ByIdentity
first_of index r = tied index_cmp (indexed r) index

-- whether a report's identity is among those that are disputed
abbrev pub is_disputed : List Identity → PacketReport → Bool
is_disputed disputed_identities r = has identity_cmp disputed_identities (identity_of r)

-- the answer to a report that is not there, by a content of its identity and whether that identity is disputed
abbrev pub answered : Option ByIdentity → Bool → Added
answered None is_one = Fresh
answered (Some first) true = MoreDispute
answered (Some first) false = NewDispute first.report

-- the index with a new report
abbrev pub index_after : Option ByIdentity → PacketReport → List ByIdentity → List ByIdentity
index_after None r index = put index_cmp (indexed r) index
index_after (Some first) r index = index

-- the disputed identities with a new report
abbrev pub disputed_after : Option ByIdentity → Bool → PacketReport → List Identity → List Identity
disputed_after None is_one r disputed_identities = disputed_identities
disputed_after (Some first) true r disputed_identities = disputed_identities
disputed_after (Some first) false r disputed_identities = put identity_cmp (identity_of r) disputed_identities
