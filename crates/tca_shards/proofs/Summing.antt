-- The statements of sets that are billed apart add up, and so do those of windows.
use Rattle.std.proofs.Common.{◌≡◌, ℕ, ◌+◌, List, [], ◌∷◌, ◌++◌, length, map, refl, sym, subst, ap, ◌∙◌}
use Rattle.std.specs.List.{AllByRecursion, enumerate_from}
use Rattle.std.specs.List.Sorted.{IsStrictlySortedBy}
use Rattle.std.proofs.lemmas.List.{length-map}
use Rattle.std.proofs.lemmas.List.FromFn.{length-enumerate_from}
use Rattle.tca_join.specs.SetLaws.{union}
use Rattle.tca_join.proofs.Sets.{rises_in_order}
use Rattle.tca_report.specs.report.Reports.{PacketReport, report_cmp}
use Rattle.tca_report.proofs.lemmas.report.Order.{report_total}
use Rattle.tca_accounts.specs.Bills.{bill_of, coloured_in, reports_of, tally_of}
use Rattle.tca_accounts.specs.Plans.{AccountPlan, IsPlan, PlannedAccount}
use Rattle.tca_accounts.specs.declared.tally.Tally.{Tally}
use Rattle.tca_figures.specs.Figures.{Stated}
use Rattle.tca_figures.specs.Sums.{AreAlike, Fits, added, names}
use Rattle.tca_figures.specs.Totals.{Adds}
use Rattle.tca_shards.specs.Shards.{HaveDomainsApart, Pairwise, added_bills, united}
use Rattle.tca_shards.specs.Statements.{FitInTurn, FitTogether, IsLogged, StatementsAddUp, WindowsStatementsAddUp, stated, statements_of}
use Rattle.tca_shards.specs.Windows.{HaveTerms, HaveTermsFrom, NoneInBoth, StartsAscend, early, late, windows_from}
use Rattle.tca_shards.proofs.AllWindows.{first_two, joined_apart}
use Rattle.tca_shards.proofs.Windows.{windows_add_up}
use Rattle.tca_shards.proofs.DomainsApart.{domains_apart_add_up, united_apart}
use Rattle.tca_shards.proofs.Kept.{all_both}
use Rattle.tca_shards.proofs.Figured.{accounts_of, stated_added}
use Rattle.tca_shards.proofs.Stating.{bills_are_read}

module _ (plan : AccountPlan) (is : IsPlan plan) where
  count : (rs : List PacketReport) → length (bill_of plan rs).accounts ≡ length plan.accounts
  count rs =
      length-map (enumerate_from 0 plan.accounts) (λ (a : ℕ × PlannedAccount). tally_of plan.period (coloured_in a.1 (reports_of plan a.0 rs)))
      ∙ length-enumerate_from 0 plan.accounts

  names_stated : (accounts : List PlannedAccount) (n : ℕ) (f : ℕ × PlannedAccount → Tally) → names (accounts_of accounts (map f (enumerate_from n accounts))) ≡ map (λ a. a.name) accounts
  names_stated [] n f = refl
  names_stated (a ∷ accounts) n f = ap (λ (l : List (List ℕ)). a.name ∷ l) (names_stated accounts (n + 1) f)

  alike : (xs ys : List PacketReport) → AreAlike (stated plan (bill_of plan xs)) (stated plan (bill_of plan ys))
  alike xs ys = (
    refl,
    names_stated plan.accounts 0 (λ (a : ℕ × PlannedAccount). tally_of plan.period (coloured_in a.1 (reports_of plan a.0 xs)))
        ∙ sym (names_stated plan.accounts 0 (λ (a : ℕ × PlannedAccount). tally_of plan.period (coloured_in a.1 (reports_of plan a.0 ys)))),
  )

  figures_added : (xs ys : List PacketReport) → stated plan (added_bills (bill_of plan xs) (bill_of plan ys)) ≡ added (stated plan (bill_of plan xs)) (stated plan (bill_of plan ys))
  figures_added xs ys = stated_added plan (bill_of plan xs) (bill_of plan ys) (count xs) (count ys)

  joined : (rs s : List PacketReport) → IsStrictlySortedBy report_cmp rs → IsStrictlySortedBy report_cmp s → HaveDomainsApart plan rs s
      → stated plan (bill_of plan (union report_cmp rs s)) ≡ added (stated plan (bill_of plan rs)) (stated plan (bill_of plan s))
  joined rs s one two apart =
      ap (stated plan) (domains_apart_add_up plan rs s one two apart) ∙ figures_added rs s

  set_by_set : (rs : List PacketReport) (sets : List (List PacketReport)) → IsStrictlySortedBy report_cmp rs → AllByRecursion IsLogged sets
      → AllByRecursion (HaveDomainsApart plan rs) sets → Pairwise (HaveDomainsApart plan) sets → FitTogether plan rs sets
      → Adds (stated plan (bill_of plan rs)) (statements_of plan sets) (stated plan (bill_of plan (united rs sets)))
  unfolding united Adds FitTogether
  set_by_set rs [] sorted logged first each fit = refl
  set_by_set rs (s ∷ sets) sorted logged first each fit =
      let is_sum = joined rs s sorted logged.0.rises first.0 in
      let both = union report_cmp rs s in
      let rest = set_by_set both sets (rises_in_order report_cmp report_total (rs ++ s)) logged.1
      (all_both (HaveDomainsApart plan rs) (HaveDomainsApart plan s) (HaveDomainsApart plan both) sets (united_apart rs s plan) first.1 each.0) each.1 fit.1 in (
        stated plan (bill_of plan s),
        bills_are_read plan s is logged.0,
        alike rs s,
        subst Fits is_sum fit.0,
        subst (λ (held : Stated). Adds held (statements_of plan sets) (stated plan (bill_of plan (united both sets)))) is_sum rest,
      )

  module _ (rs : List PacketReport) (rises : IsStrictlySortedBy report_cmp rs) (meters : HaveTerms plan) where
    window_by_window : (t : ℕ) (ts : List ℕ) → StartsAscend t ts → Pairwise NoneInBoth (early t rs ∷ windows_from t ts rs) → AllByRecursion (HaveTermsFrom plan) (t ∷ ts)
        → AllByRecursion IsLogged (windows_from t ts rs) → FitInTurn plan ts rs
        → Adds (stated plan (bill_of plan (early t rs))) (statements_of plan (windows_from t ts rs)) (stated plan (bill_of plan rs))
    unfolding Adds FitInTurn
    window_by_window t [] ascend apart terms logged fit =
        let is_sum = ap (stated plan) (windows_add_up plan t rs (record { rises = rises; meters = meters; apart = apart.0.0; terms = terms.0 })) ∙ figures_added (early t rs) (late t rs) in (
          stated plan (bill_of plan (late t rs)),
          bills_are_read plan (late t rs) is logged.0,
          alike (early t rs) (late t rs),
          subst Fits is_sum fit,
          is_sum,
        )
    window_by_window t (u ∷ us) ascend apart terms logged fit =
        let next = early u (late t rs) in
        let is_sum = ap (stated plan) (first_two plan rs rises meters t u ascend.0 apart.0.0 terms.0) ∙ figures_added (early t rs) next in
        let rest = window_by_window u us ascend.1 (joined_apart plan rs rises meters t u us ascend.0 apart) terms.1 logged.1 fit.1 in (
          stated plan (bill_of plan next),
          bills_are_read plan next is logged.0,
          alike (early t rs) next,
          subst Fits is_sum fit.0,
          subst (λ (held : Stated). Adds held (statements_of plan (windows_from u us rs)) (stated plan (bill_of plan rs))) is_sum rest,
        )

pub statements_add_up : StatementsAddUp
statements_add_up plan rs sets is logged apart fit = (
  stated plan (bill_of plan rs),
  bills_are_read plan rs is logged.0,
  set_by_set plan is rs sets logged.0.rises logged.1 apart.0 apart.1 fit,
)

pub windows_statements_add_up : WindowsStatementsAddUp
windows_statements_add_up plan t ts rs is w logged fit = (
  stated plan (bill_of plan (early t rs)),
  bills_are_read plan (early t rs) is logged.0,
  window_by_window plan is rs w.rises w.meters t ts w.ascend w.apart w.terms logged.1 fit,
)
