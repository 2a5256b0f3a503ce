-- The bill of any number of windows.
use Rattle.std.proofs.Common.{◌≡◌, inl, inr, ℕ, ◌+◌, ◌<◌, not, List, [], ◌∷◌, length, map, filter, refl, sym, ap, ◌∙◌, arith}
use Rattle.std.specs.Prelude.{nat_lt}
use Rattle.std.specs.List.{AllByRecursion}
use Rattle.std.specs.List.Sorted.{IsStrictlySortedBy}
use borrow.Author.Tests.{ltb-true, lt-ltb}
use Rattle.std.proofs.lemmas.List.Kept.{IsStrictlySortedBy-filter}
use Rattle.tca_report.specs.report.Reports.{PacketReport, report_cmp}
use Rattle.tca_report.specs.declared.report.Identity.{Identity}
use Rattle.tca_log.specs.Disputes.{has_identity, contents}
use Rattle.tca_accounts.specs.Plans.{AccountPlan}
use Rattle.tca_accounts.specs.Bills.{bill_of}
use Rattle.tca_accounts.specs.declared.bill.Bill.{Bill}
use Rattle.tca_shards.specs.Shards.{added_bills, summed, Pairwise}
use Rattle.tca_shards.specs.Windows.{early, late, NoneInBoth, HaveTerms, HaveTermsFrom, StartsAscend, windows_from, AllWindowsAddUp}
use Rattle.tca_shards.proofs.Kept.{all_both, filter_swap, filter_within, length_split}
use Rattle.tca_shards.proofs.Windows.{windows_add_up}

-- of the reports before a moment, those before an earlier one
early_twice : (t u : ℕ) → t < u → (rs : List PacketReport) → early t (early u rs) ≡ early t rs
early_twice t u l rs =
    filter_within (λ (r : PacketReport). nat_lt r.time t) (λ (r : PacketReport). nat_lt r.time u) rs
    (λ r h. let low : r.time < t = ltb-true r.time t h in lt-ltb r.time u (omega (arith, low, l)))

-- and those from an earlier one on
late_of_early : (t u : ℕ) (rs : List PacketReport) → late t (early u rs) ≡ early u (late t rs)
late_of_early t u rs = filter_swap (λ (r : PacketReport). not (nat_lt r.time t)) (λ (r : PacketReport). not (nat_lt r.time t)) (λ (r : PacketReport). nat_lt r.time u) rs (λ r e. refl)

nothing_of_length : {K : Type 0} (xs : List K) → length xs ≡ 0 → xs ≡ []
nothing_of_length [] h = refl
nothing_of_length (x ∷ xs) h = absurd (omega (arith, h))

-- an identity without contents before a moment and from it on has none
none_at_all : (t : ℕ) (rs : List PacketReport) (i : Identity) → contents (early t rs) i ≡ [] → contents (late t rs) i ≡ [] → contents rs i ≡ []
unfolding contents
none_at_all t rs i h k =
    let its = filter (has_identity i) rs in
    let first : length (early t its) ≡ 0 = ap length (sym (filter_swap (has_identity i) (has_identity i) (λ (r : PacketReport). nat_lt r.time t) rs (λ r e. refl)) ∙ h) in
    let second : length (late t its) ≡ 0 = ap length (sym (filter_swap (has_identity i) (has_identity i) (λ (r : PacketReport). not (nat_lt r.time t)) rs (λ r e. refl)) ∙ k) in
    let all : length its ≡ length (early t its) + length (late t its) = length_split (λ (r : PacketReport). nat_lt r.time t) its in
    nothing_of_length its (omega (arith, all, first, second))

module _ (rs : List PacketReport) (t u : ℕ) (l : t < u) where
  -- the first two windows are parted by the moment between them
  parted : NoneInBoth (early t rs) (early u (late t rs)) → NoneInBoth (early t (early u rs)) (late t (early u rs))
  parted h i = elim (h i) [
    | inl none ↦ inl (ap (λ (xs : List PacketReport). contents xs i) (early_twice t u l rs) ∙ none)
    | inr none ↦ inr (ap (λ (xs : List PacketReport). contents xs i) (late_of_early t u rs) ∙ none)
  ]

  -- a set that is apart from each of them is apart from both together
  joined : (zs : List PacketReport) → NoneInBoth (early t rs) zs → NoneInBoth (early u (late t rs)) zs → NoneInBoth (early u rs) zs
  joined zs h k i = elim (h i) [
    | inl none ↦ elim (k i) [
      | inl none_later ↦ inl (none_at_all t (early u rs) i
          (ap (λ (xs : List PacketReport). contents xs i) (early_twice t u l rs) ∙ none)
          (ap (λ (xs : List PacketReport). contents xs i) (late_of_early t u rs) ∙ none_later))
      | inr none_there ↦ inr none_there
    ]
    | inr none ↦ inr none
  ]

module _ (plan : AccountPlan) (rs : List PacketReport) (rises : IsStrictlySortedBy report_cmp rs) (meters : HaveTerms plan) where
  -- the bill of the first two of three windows
  pub first_two : (t u : ℕ) → t < u → NoneInBoth (early t rs) (early u (late t rs)) → HaveTermsFrom plan t
      → bill_of plan (early u rs) ≡ added_bills (bill_of plan (early t rs)) (bill_of plan (early u (late t rs)))
  first_two t u ascend apart terms =
      windows_add_up plan t (early u rs) (record {
        rises = IsStrictlySortedBy-filter report_cmp (λ (r : PacketReport). nat_lt r.time u) rs rises;
        meters = meters;
        apart = parted rs t u ascend apart;
        terms = terms;
      })
      ∙ (λ i. added_bills (bill_of plan (early_twice t u ascend rs i)) (bill_of plan (late_of_early t u rs i)))

  -- the windows are apart, with the first two as one
  pub joined_apart : (t u : ℕ) (us : List ℕ) → t < u → Pairwise NoneInBoth (early t rs ∷ windows_from t (u ∷ us) rs) → Pairwise NoneInBoth (early u rs ∷ windows_from u us rs)
  joined_apart t u us ascend apart =
      (all_both (NoneInBoth (early t rs)) (NoneInBoth (early u (late t rs))) (NoneInBoth (early u rs)) (windows_from u us rs) (joined rs t u ascend) apart.0.1 apart.1.0, apart.1.1)

  one_by_one : (t : ℕ) (ts : List ℕ) → StartsAscend t ts → Pairwise NoneInBoth (early t rs ∷ windows_from t ts rs) → AllByRecursion (HaveTermsFrom plan) (t ∷ ts)
      → bill_of plan rs ≡ summed (bill_of plan (early t rs)) (map (bill_of plan) (windows_from t ts rs))
  unfolding summed
  one_by_one t [] ascend apart terms = windows_add_up plan t rs (record { rises = rises; meters = meters; apart = apart.0.0; terms = terms.0 })
  one_by_one t (u ∷ us) ascend apart terms =
      one_by_one u us ascend.1 (joined_apart t u us ascend.0 apart) terms.1
      ∙ ap (λ (b : Bill). summed b (map (bill_of plan) (windows_from u us rs))) (first_two t u ascend.0 apart.0.0 terms.0)

pub all_windows_add_up : AllWindowsAddUp
all_windows_add_up plan t ts rs w = one_by_one plan rs w.rises w.meters t ts w.ascend w.apart w.terms
