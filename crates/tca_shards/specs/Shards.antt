-- The sum of two bills, and sets of reports whose observation domains are apart.
use Rattle.std.specs.Prelude.{◌≡◌, ℕ, ◌+◌, ◌==◌, Bool, true, false, ◌||◌, not, if◌then◌else◌, List, [], ◌∷◌, ◌++◌, map, filter}
use Rattle.std.specs.List.{AllByRecursion, list_all, list_any, enumerate_from}
use Rattle.std.specs.List.Sorted.{IsStrictlySortedBy}
use Rattle.std.specs.Ordering.{nat_cmp}
use Rattle.tca_join.specs.Sets.{has, in_order}
use Rattle.tca_join.specs.SetLaws.{union}
use Rattle.tca_report.specs.report.Reports.{PacketReport, report_cmp}
use Rattle.tca_accounts.specs.Plans.{AccountPlan, PlannedAccount}
use Rattle.tca_accounts.specs.Sums.{ColourSums}
use Rattle.tca_accounts.specs.Spans.{Ascend}
use Rattle.tca_accounts.specs.Metering.{no_sums}
use Rattle.tca_accounts.specs.Bills.{bill_of}
use Rattle.tca_accounts.specs.declared.span.Span.{Span}
use Rattle.tca_accounts.specs.declared.tally.Tally.{Tally}
use Rattle.tca_accounts.specs.declared.bill.Bill.{Bill}

-- two lists of numbers added up place by place
unfoldable pub added_numbers : List ℕ → List ℕ → List ℕ
added_numbers [] ns = ns
added_numbers (m ∷ ms) [] = m ∷ ms
added_numbers (m ∷ ms) (n ∷ ns) = (m + n) ∷ added_numbers ms ns

-- octets and packets added up colour by colour
abbrev pub added_sums : ColourSums → ColourSums → ColourSums
added_sums a b = record { octets = added_numbers a.octets b.octets; packets = added_numbers a.packets b.packets }

-- the sums that spans have for a period: those of its span, or none
unfoldable pub sums_at : List Span → ℕ → ColourSums
sums_at [] index = no_sums
sums_at (s ∷ spans) index = if s.index == index then s.sums else sums_at spans index

-- the periods of spans
abbrev pub indexes : List Span → List ℕ
indexes spans = map (λ s. s.index) spans

-- the periods that one of two has a span for, ascending, each with the sums of what both have for it
abbrev pub added_spans : List Span → List Span → List Span
added_spans as_ bs = map (λ index. record { index = index; sums = added_sums (sums_at as_ index) (sums_at bs index) })
    (in_order nat_cmp (indexes as_ ++ indexes bs))

-- the sum of two tallies
abbrev pub added_tallies : Tally → Tally → Tally
added_tallies a b = record { total = added_sums a.total b.total; spans = added_spans a.spans b.spans }

-- the tallies of accounts added up, account by account
unfoldable pub added_accounts : List Tally → List Tally → List Tally
added_accounts [] bs = bs
added_accounts (a ∷ as_) [] = a ∷ as_
added_accounts (a ∷ as_) (b ∷ bs) = added_tallies a b ∷ added_accounts as_ bs

-- the sum of two bills under one plan
abbrev pub added_bills : Bill → Bill → Bill
added_bills a b = record {
  reports = a.reports + b.reports;
  disputed = a.disputed + b.disputed;
  unassigned = a.unassigned + b.unassigned;
  accounts = added_accounts a.accounts b.accounts;
}

-- whether all pairs of an account are of domains of one side
abbrev pub is_one_sided : (ℕ → Bool) → PlannedAccount → Bool
is_one_sided side a = list_all (λ (p : ℕ × ℕ). side p.0) a.pairs || list_all (λ (p : ℕ × ℕ). not (side p.0)) a.pairs

-- two sets are shards under a plan where a side of the domains has all reports of the one and none of the other, and each account
-- has pairs of that side alone or of none of it
pub record AreShards (plan : AccountPlan) (side : ℕ → Bool) (xs ys : List PacketReport) : Type 0 where
  pub first : IsStrictlySortedBy report_cmp xs
  pub second : IsStrictlySortedBy report_cmp ys
  pub within : AllByRecursion (λ (r : PacketReport). side r.domain ≡ true) xs
  pub apart : AllByRecursion (λ (r : PacketReport). side r.domain ≡ false) ys
  pub accounts : AllByRecursion (λ a. is_one_sided side a ≡ true) plan.accounts

-- the bill of any reports is the sum of the bills of those on a side and of those off it, where each account has pairs of one alone
abbrev pub SidesAddUp : Type 0
SidesAddUp = (plan : AccountPlan) (side : ℕ → Bool) (rs : List PacketReport) → AllByRecursion (λ a. is_one_sided side a ≡ true) plan.accounts
    → bill_of plan rs ≡ added_bills (bill_of plan (filter (λ r. side r.domain) rs)) (bill_of plan (filter (λ r. not (side r.domain)) rs))

-- the bill of the union of shards is the sum of their bills
abbrev pub ShardsAddUp : Type 0
ShardsAddUp = (plan : AccountPlan) (side : ℕ → Bool) (xs ys : List PacketReport) → AreShards plan side xs ys
    → bill_of plan (union report_cmp xs ys) ≡ added_bills (bill_of plan xs) (bill_of plan ys)

-- whether a set has a report of this domain
abbrev pub has_domain : List PacketReport → ℕ → Bool
has_domain rs d = list_any (λ (r : PacketReport). r.domain == d) rs

-- no pair of an account is of a domain of these reports
abbrev pub has_none_of : List PacketReport → PlannedAccount → Bool
has_none_of rs a = list_all (λ (p : ℕ × ℕ). not (has_domain rs p.0)) a.pairs

-- two sets have no domain in common, and no account has pairs of domains of both; it may have pairs of domains that neither has
pub record HaveDomainsApart (plan : AccountPlan) (xs ys : List PacketReport) : Type 0 where
  pub apart : AllByRecursion (λ (r : PacketReport). has_domain xs r.domain ≡ false) ys
  pub accounts : AllByRecursion (λ (a : PlannedAccount). (has_none_of xs a || has_none_of ys a) ≡ true) plan.accounts

-- the bill of the union of two such sets is the sum of their bills
abbrev pub DomainsApartAddUp : Type 0
DomainsApartAddUp = (plan : AccountPlan) (xs ys : List PacketReport) → IsStrictlySortedBy report_cmp xs → IsStrictlySortedBy report_cmp ys
    → HaveDomainsApart plan xs ys → bill_of plan (union report_cmp xs ys) ≡ added_bills (bill_of plan xs) (bill_of plan ys)

-- a set united with one after the other of these
unfoldable pub united : List PacketReport → List (List PacketReport) → List PacketReport
united rs [] = rs
united rs (more ∷ sets) = united (union report_cmp rs more) sets

-- a bill with one after the other of these added
unfoldable pub summed : Bill → List Bill → Bill
summed b [] = b
summed b (c ∷ bills) = summed (added_bills b c) bills

-- each member of a list is in a relation to all behind it
abbrev pub Pairwise : {K : Type 0} → (K → K → Type 0) → List K → Type 0
Pairwise R [] = Unit {0}
Pairwise R (x ∷ xs) = AllByRecursion (R x) xs × Pairwise R xs

-- the bill of the union of any number of sets, each two of which have their domains apart, is the sum of their bills
abbrev pub AllDomainsApartAddUp : Type 0
AllDomainsApartAddUp = (plan : AccountPlan) (rs : List PacketReport) (sets : List (List PacketReport))
    → AllByRecursion (λ (s : List PacketReport). IsStrictlySortedBy report_cmp s) (rs ∷ sets) → Pairwise (HaveDomainsApart plan) (rs ∷ sets)
    → bill_of plan (united rs sets) ≡ summed (bill_of plan rs) (map (bill_of plan) sets)

-- all pairs of an account are of domains of one shard
abbrev pub HasOneHome : (ℕ → ℕ) → PlannedAccount → Type 0
HasOneHome home a = (n : ℕ) × AllByRecursion (λ (p : ℕ × ℕ). home p.0 ≡ n) a.pairs

-- sets are shards, counted from 0, where each domain has a number, set n has reports of domains of number n alone, and each
-- account has pairs of domains of one number
pub record AreShardsAt (plan : AccountPlan) (home : ℕ → ℕ) (sets : List (List PacketReport)) : Type 0 where
  pub rise : AllByRecursion (λ (rs : List PacketReport). IsStrictlySortedBy report_cmp rs) sets
  pub at_home : AllByRecursion (λ (s : ℕ × List PacketReport). AllByRecursion (λ (r : PacketReport). home r.domain ≡ s.0) s.1) (enumerate_from 0 sets)
  pub accounts : AllByRecursion (HasOneHome home) plan.accounts

-- the bill of the union of any number of shards is the sum of their bills
abbrev pub AllShardsAddUp : Type 0
AllShardsAddUp = (plan : AccountPlan) (home : ℕ → ℕ) (rs : List PacketReport) (sets : List (List PacketReport)) → AreShardsAt plan home (rs ∷ sets)
    → bill_of plan (united rs sets) ≡ summed (bill_of plan rs) (map (bill_of plan) sets)

-- what the sum of spans says: its periods ascend, they are those of the two, and for each period it has what both have for it
pub record IsSpanBySpan (as_ bs : List Span) : Type 0 where
  pub ascend : Ascend (added_spans as_ bs)
  pub periods : (index : ℕ) → has nat_cmp (indexes (added_spans as_ bs)) index ≡ (has nat_cmp (indexes as_) index || has nat_cmp (indexes bs) index)
  pub sums : (index : ℕ) → sums_at (added_spans as_ bs) index ≡ added_sums (sums_at as_ index) (sums_at bs index)

-- so it is for any two lists of spans
abbrev pub SpansAddUp : Type 0
SpansAddUp = (as_ bs : List Span) → IsSpanBySpan as_ bs

-- two bills have the same sum in either order
abbrev pub SumsCommute : Type 0
SumsCommute = (a b : Bill) → added_bills a b ≡ added_bills b a

-- three bills have the same sum, whichever two are added first
abbrev pub SumsAssociate : Type 0
SumsAssociate = (a b c : Bill) → added_bills (added_bills a b) c ≡ added_bills a (added_bills b c)
