-- What new reports add to a log's index and to its disputed identities: for private functions and their proofs alone.
use Rattle.std.specs.Prelude.{◌≡◌, ℕ, ◌+◌, ◌≤◌, ◌||◌, if◌then◌else◌, true, List, [], ◌∷◌, length, filter, map, nat_lt}
use Rattle.std.specs.List.{AllByRecursion}
use Rattle.std.specs.Ordering.{eq_by_cmp}
use Rattle.std.specs.declared.cmp.Ordering.{Ordering}
use Rattle.tca_join.specs.Sets.{has, put}
use Rattle.tca_report.specs.report.Reports.{PacketReport, report_cmp}
use Rattle.tca_report.specs.report.Identities.{identity_of, identity_cmp}
use Rattle.tca_report.specs.declared.report.Identity.{Identity}
use Rattle.tca_log.specs.declared.by_identity.ByIdentity.{ByIdentity}
use Rattle.tca_log.specs.Rows.Ordered.{AreApart}
use Rattle.tca_log.specs.inside.Logs.{index_cmp, indexed, count_at}

-- the first contents of identities that were unknown, and the identities that become disputed
pub record AddedRows : Type 0 where
  pub fresh : List ByIdentity
  pub newly_disputed : List Identity

-- what reports that are new to a log add to its index and to its disputed identities
pub record AreAdditions (rs : List PacketReport) (index : List ByIdentity) (disputed_identities : List Identity) (news : List PacketReport) (fresh : List ByIdentity) (newly_disputed : List Identity) : Type 0 where
  pub known : (r : PacketReport) → (has index_cmp index (indexed r) || has index_cmp fresh (indexed r)) ≡ nat_lt 0 (count_at rs (identity_of r) + count_at news (identity_of r))
  pub disputed_are : (i : Identity) → (has identity_cmp disputed_identities i || has identity_cmp newly_disputed i) ≡ nat_lt 1 (count_at rs i + count_at news i)
  pub among : AllByRecursion (λ b. has report_cmp news b.report ≡ true) fresh
  pub apart : AreApart index_cmp fresh index
  pub apart_disputed : AreApart identity_cmp newly_disputed disputed_identities
  pub fewer : length fresh ≤ length news
  pub fewer_disputed : length newly_disputed ≤ length news

-- these with one more report
abbrev pub with_report : List ByIdentity → List Identity → ByIdentity → AddedRows → AddedRows
with_report index disputed_identities key n =
    if has index_cmp index key || has index_cmp n.fresh key
    then (if has identity_cmp disputed_identities (identity_of key.report) || has identity_cmp n.newly_disputed (identity_of key.report) then n else record { fresh = n.fresh; newly_disputed = put identity_cmp (identity_of key.report) n.newly_disputed })
    else record { fresh = put index_cmp key n.fresh; newly_disputed = n.newly_disputed }

-- these with one report after another
unfoldable pub with_reports : List ByIdentity → List Identity → List ByIdentity → AddedRows → AddedRows
with_reports index disputed_identities [] n = n
with_reports index disputed_identities (key ∷ keys) n = with_reports index disputed_identities keys (with_report index disputed_identities key n)

-- the reports of rows of the index
abbrev pub reports_in : List ByIdentity → List PacketReport
reports_in keys = map (λ b. b.report) keys

-- how many times k stands in a list
unfoldable pub times : {K : Type 0} → (K → K → Ordering) → K → List K → ℕ
times R k xs = length (filter (eq_by_cmp R k) xs)
