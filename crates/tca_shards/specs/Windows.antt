-- Reports before a moment and from it on, and windows of time that are billed apart.
use Rattle.std.specs.Prelude.{◌≡◌, ◌⊎◌, ◌==◌, ◌<◌, ℕ, Bool, true, not, nat_lt, List, [], ◌∷◌, filter, map}
use Rattle.std.specs.List.{AllByRecursion, list_any}
use Rattle.std.specs.List.Sorted.{IsStrictlySortedBy}
use Rattle.tca_report.specs.report.Reports.{PacketReport, report_cmp}
use Rattle.tca_report.specs.declared.report.Identity.{Identity}
use Rattle.tca_log.specs.Disputes.{contents}
use Rattle.tca_meters.specs.declared.any_meter.AnyMeter.{AnyMeter}
use Rattle.tca_meters.specs.Termed.{IsTermed, TermedMeter}
use Rattle.tca_accounts.specs.Plans.{AccountPlan, PlannedAccount}
use Rattle.tca_accounts.specs.Bills.{bill_of}
use Rattle.tca_shards.specs.Shards.{added_bills, summed, Pairwise}

-- the reports before a moment
abbrev pub early : ℕ → List PacketReport → List PacketReport
early t rs = filter (λ (r : PacketReport). nat_lt r.time t) rs

-- the reports from it on
abbrev pub late : ℕ → List PacketReport → List PacketReport
late t rs = filter (λ (r : PacketReport). not (nat_lt r.time t)) rs

-- no identity has contents in both of two sets
abbrev pub NoneInBoth : List PacketReport → List PacketReport → Type 0
NoneInBoth xs ys = (i : Identity) → (contents xs i ≡ []) ⊎ (contents ys i ≡ [])

-- a term of the meter starts at this moment, so that both its buckets are full then
abbrev pub has_term_from : ℕ → TermedMeter → Bool
has_term_from t m = list_any (λ (s : ℕ × AnyMeter). s.0 == t) m.later

-- the terms of each account's meter ascend
abbrev pub HaveTerms : AccountPlan → Type 0
HaveTerms plan = AllByRecursion (λ (a : PlannedAccount). IsTermed a.meter) plan.accounts

-- each account's meter has a term that starts at this moment
abbrev pub HaveTermsFrom : AccountPlan → ℕ → Type 0
HaveTermsFrom plan t = AllByRecursion (λ (a : PlannedAccount). has_term_from t a.meter ≡ true) plan.accounts

-- a moment parts reports into two windows: no identity has contents in both, and each account's meter has a term that starts at it
pub record AreWindows (plan : AccountPlan) (t : ℕ) (rs : List PacketReport) : Type 0 where
  pub rises : IsStrictlySortedBy report_cmp rs
  pub meters : HaveTerms plan
  pub apart : NoneInBoth (early t rs) (late t rs)
  pub terms : HaveTermsFrom plan t

-- the bill of both windows is the sum of the bills of each
abbrev pub WindowsAddUp : Type 0
WindowsAddUp = (plan : AccountPlan) (t : ℕ) (rs : List PacketReport) → AreWindows plan t rs → bill_of plan rs ≡ added_bills (bill_of plan (early t rs)) (bill_of plan (late t rs))

-- each moment is after the one in front of it, or after a first one
abbrev pub StartsAscend : ℕ → List ℕ → Type 0
StartsAscend t [] = Unit {0}
StartsAscend t (u ∷ us) = (t < u) × StartsAscend u us

-- the windows from a moment on: each has the reports from its start on and before the next start, the last one all from its start on
abbrev pub windows_from : ℕ → List ℕ → List PacketReport → List (List PacketReport)
windows_from t [] rs = late t rs ∷ []
windows_from t (u ∷ us) rs = early u (late t rs) ∷ windows_from u us rs

-- moments that ascend part reports into windows: no identity has contents in two of them, and each account's meter has a term that starts at
-- each of these moments
pub record AreAllWindows (plan : AccountPlan) (t : ℕ) (ts : List ℕ) (rs : List PacketReport) : Type 0 where
  pub rises : IsStrictlySortedBy report_cmp rs
  pub meters : HaveTerms plan
  pub ascend : StartsAscend t ts
  pub apart : Pairwise NoneInBoth (early t rs ∷ windows_from t ts rs)
  pub terms : AllByRecursion (HaveTermsFrom plan) (t ∷ ts)

-- the bill of all windows is the sum of their bills: of the reports before the first of these moments, and of each window from it on
abbrev pub AllWindowsAddUp : Type 0
AllWindowsAddUp = (plan : AccountPlan) (t : ℕ) (ts : List ℕ) (rs : List PacketReport) → AreAllWindows plan t ts rs
    → bill_of plan rs ≡ summed (bill_of plan (early t rs)) (map (bill_of plan) (windows_from t ts rs))
