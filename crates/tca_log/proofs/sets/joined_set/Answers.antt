use Rattle.std.proofs.Common.{◌≡◌, length, take, drop, ◌∙◌, sym, ap, subst}
use Rattle.std.specs.Prelude.{Result, Ok, Err, is_err, OnOk, false}
use Rattle.std.specs.List.Sorted.{IsPermutation}
use Rattle.std.proofs.lemmas.Bool.{false≢true}
use Rattle.std.proofs.lemmas.List.Filters.{dedup_is}
use Rattle.std.proofs.lemmas.List.Sorted.{IsPermutation-trans, length_permutation}
use Rattle.tca_join.specs.Sets.{has}
use Rattle.tca_join.proofs.Differ.{rest_is}
use Rattle.tca_report.specs.report.Reports.{report_cmp}
use Rattle.tca_report.proofs.lemmas.report.Order.{report_total, report_exact, report_eq, same_report_is}
use Rattle.tca_log.proofs.Gathering.{seen, set_is, set_moved, front_is_set}
use Rattle.tca_log.proofs.sets.joined_set.Goals as goal

on_ok : {A E P : Type 0} (r : Result A E) → is_err r ≡ false → OnOk r P → P
on_ok (Ok a) e p = p
on_ok (Err x) e p = absurd (false≢true (sym e))

pub returns-then-are_among : goal.returns-then-are_among
returns-then-are_among g c =
    let list = c.sort_behind.new.rows in
    let all = c.args.reports.items in
    let moved : IsPermutation all list = subst (λ l. IsPermutation l list) c.deref_mut.ensures.value c.sort_behind.ensures.permutation in
    let long : length list ≡ c.args.reports.len = length_permutation c.deref_mut.result.now list c.sort_behind.ensures.permutation ∙ c.deref_mut.ensures.len in
    let front : take c.args.rising list ≡ take c.args.rising all = c.sort_behind.ensures.first ∙ ap (take c.args.rising) c.deref_mut.ensures.value in
    c.truncate.ensures.items
    ∙ ap (take c.args.rising) (seen list _ c.args.reports.len long)
    ∙ front_is_set report_cmp report_total report_exact all list c.args.rising moved (rw front c.requires.rises) (λ q h.
    ap (λ l. has report_cmp (take c.args.rising l) q) (sym (c.deref-2.ensures.value ∙ seen list _ c.args.reports.len long))
    ∙ c.are_among.ensures c.if-are_among.true q (ap (λ l. has report_cmp l q) (rest_is c.deref.result.now c.args.rising) ∙ ap (λ l. has report_cmp (drop c.args.rising l) q) (c.deref.ensures.value ∙ seen list _ c.args.reports.len long) ∙ h))

pub returns-then-is_err : goal.returns-then-is_err
returns-then-is_err g c =
    let list = c.sort_behind.new.rows in
    let all = c.args.reports.items in
    let moved : IsPermutation all list = subst (λ l. IsPermutation l list) c.deref_mut.ensures.value c.sort_behind.ensures.permutation in
    let long : length list ≡ c.args.reports.len = length_permutation c.deref_mut.result.now list c.sort_behind.ensures.permutation ∙ c.deref_mut.ensures.len in
    let sorted : IsPermutation list c.sort.new.self.items = subst (λ l. IsPermutation l c.sort.new.self.items) (seen list _ c.args.reports.len long) c.sort.ensures.permutation in
    c.sorted_set.ensures ∙ set_moved report_cmp report_total report_exact all c.sort.new.self.items (IsPermutation-trans all list c.sort.new.self.items moved sorted)

pub returns : goal.returns
returns g c =
    let list = c.sort_behind.new.rows in
    let all = c.args.reports.items in
    let moved : IsPermutation all list = subst (λ l. IsPermutation l list) c.deref_mut.ensures.value c.sort_behind.ensures.permutation in
    let long : length list ≡ c.args.reports.len = length_permutation c.deref_mut.result.now list c.sort_behind.ensures.permutation ∙ c.deref_mut.ensures.len in
    let sorted : IsPermutation list c.sort.new.self.items = subst (λ l. IsPermutation l c.sort.new.self.items) (seen list _ c.args.reports.len long) c.sort.ensures.permutation in
    set_is report_cmp report_total report_exact report_eq same_report_is all c.sort.new.self.items c.dedup.new.self.items (IsPermutation-trans all list c.sort.new.self.items moved sorted) (on_ok c.sort.result (sym c.is_err.ensures.value ∙ c.if-is_err.false) c.sort.ensures.sorted) (dedup_is report_eq c.sort.new.self.items c.dedup.new.self.items c.dedup.ensures.filtered)
