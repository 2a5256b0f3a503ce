-- A log holds the set of the reports that came to it.
use Rattle.std.proofs.Common.{◌≡◌, ◌||◌, List, [], ◌∷◌, ◌++◌, sym, ap, ◌∙◌, append_assoc}
use Rattle.std.proofs.lemmas.List.{append-nil}
use Rattle.std.specs.Ordering.{eq_by_cmp}
use Rattle.tca_join.specs.Sets.{has, in_order}
use Rattle.tca_join.proofs.Sets.{has-append, has-in_order, or_swap}
use Rattle.tca_join.proofs.Merge.{in_order_alike}
use Rattle.tca_report.specs.report.Reports.{PacketReport, report_cmp}
use Rattle.tca_report.proofs.lemmas.report.Order.{report_total, report_exact}
use Rattle.tca_log.specs.Arrivals.{Arrival, One, Many, all_given, after_all}

abbrev set_of : List PacketReport → List PacketReport
set_of rs = in_order report_cmp rs

-- a report may be put first or last
one_more : (r : PacketReport) (xs later : List PacketReport) → set_of ((r ∷ xs) ++ later) ≡ set_of (xs ++ r ∷ later)
unfolding has
one_more r xs later = in_order_alike report_cmp report_total report_exact ((r ∷ xs) ++ later) (xs ++ r ∷ later) (λ q.
    ap (λ b. eq_by_cmp report_cmp q r || b) (has-append report_cmp report_total xs later q)
    ∙ or_swap (eq_by_cmp report_cmp q r) (has report_cmp xs q) (has report_cmp later q)
    ∙ sym (has-append report_cmp report_total xs (r ∷ later) q))

-- a set with more reports
many_more : (xs rs : List PacketReport) → set_of (set_of xs ++ rs) ≡ set_of (xs ++ rs)
many_more xs rs = in_order_alike report_cmp report_total report_exact (set_of xs ++ rs) (xs ++ rs) (λ q.
    has-append report_cmp report_total (set_of xs) rs q
    ∙ ap (λ b. b || has report_cmp rs q) (has-in_order report_cmp report_total xs q)
    ∙ sym (has-append report_cmp report_total xs rs q))

arrived : (xs : List PacketReport) (arrivals : List Arrival) → after_all arrivals (set_of xs) ≡ set_of (xs ++ all_given arrivals)
unfolding in_order
arrived xs [] = ap set_of (sym (append-nil xs))
arrived xs (One r ∷ later) = arrived (r ∷ xs) later ∙ one_more r xs (all_given later)
arrived xs (Many rs ∷ later) =
    ap (after_all later) (many_more xs rs) ∙ arrived (xs ++ rs) later ∙ ap set_of (append_assoc xs rs (all_given later))

-- a log holds the set of the reports that came
pub set_arrived : (arrivals : List Arrival) → after_all arrivals [] ≡ in_order report_cmp (all_given arrivals)
unfolding in_order
set_arrived arrivals = arrived [] arrivals

-- the same reports, however they came, make one log
pub same_arrived : (a b : List Arrival) → ((r : PacketReport) → has report_cmp (all_given a) r ≡ has report_cmp (all_given b) r) → after_all a [] ≡ after_all b []
same_arrived a b same =
    set_arrived a ∙ in_order_alike report_cmp report_total report_exact (all_given a) (all_given b) same ∙ sym (set_arrived b)
