use Rattle.std.proofs.Common.{◌≡◌, length, ◌∙◌, sym, ap, subst}
use Rattle.std.specs.List.Sorted.{IsPermutation}
use Rattle.std.proofs.lemmas.List.Sorted.{length_permutation}
use Rattle.tca_join.specs.Sets.{in_order}
use Rattle.tca_join.proofs.Merge.{in_order_of_rising}
use Rattle.tca_report.specs.report.Reports.{report_cmp}
use Rattle.tca_report.proofs.lemmas.report.Order.{report_total, report_exact}
use Rattle.tca_log.proofs.Gathering.{seen, set_moved}
use Rattle.tca_log.proofs.sets.set_where.Goals as goal

pub returns-then-ascends : goal.returns-then-ascends
returns-then-ascends g c = sym (in_order_of_rising report_cmp report_total report_exact c.args.reports.items (c.requires c.if-ascends.true))

pub returns-then-ascend : goal.returns-then-ascend
returns-then-ascend g c = sym (in_order_of_rising report_cmp report_total report_exact c.args.reports.items (rw c.deref.ensures.value at c.ascend.ensures.rises c.if-ascend.true))

pub returns-then-rising-len : goal.returns-then-rising-len
returns-then-rising-len g c =
    let list = c.rising_first-rising.new.rows in
    let long : length list ≡ c.args.reports.len = length_permutation c.deref_mut.result.now list c.rising_first-rising.ensures.permutation ∙ c.deref_mut.ensures.len in
    c.sorted_set.ensures
    ∙ ap (in_order report_cmp) (seen list _ c.args.reports.len long)
    ∙ set_moved report_cmp report_total report_exact c.args.reports.items list (subst (λ l. IsPermutation l list) c.deref_mut.ensures.value c.rising_first-rising.ensures.permutation)

pub returns : goal.returns
returns g c =
    let list = c.rising_first-rising.new.rows in
    let long : length list ≡ c.args.reports.len = length_permutation c.deref_mut.result.now list c.rising_first-rising.ensures.permutation ∙ c.deref_mut.ensures.len in
    c.joined_set.ensures
    ∙ ap (in_order report_cmp) (seen list _ c.args.reports.len long)
    ∙ set_moved report_cmp report_total report_exact c.args.reports.items list (subst (λ l. IsPermutation l list) c.deref_mut.ensures.value c.rising_first-rising.ensures.permutation)
