use Rattle.std.proofs.Common.{rules, ◌<◌, ◌^◌, ◌∙◌}
use Rattle.tca_figures.specs.Figures.{Stated}
use Rattle.tca_figures.specs.Sums.{AreAlike, added_accounts}
use Rattle.tca_figures.proofs.InForm.{is_sum}
use Rattle.tca_figures.proofs.sum.sum_of.Goals as goal

pub invariant_of-result : goal.invariant_of-result
invariant_of-result c =
    let a : Stated = record { period = c.first.inside.period; reports = c.first.inside.reports; disputed = c.first.inside.disputed; unassigned = c.first.inside.unassigned; accounts = c.first.inside.accounts.items } in
    let b : Stated = record { period = c.second.inside.period; reports = c.second.inside.reports; disputed = c.second.inside.disputed; unassigned = c.second.inside.unassigned; accounts = c.second.inside.accounts.items } in
    let alike : AreAlike a b = search rules in
    let reports : c.in_ok-count_sum.field-0 < 2 ^ 64 = search rules in
    let disputed : c.in_ok-count_sum-2.field-0 < 2 ^ 64 = search rules in
    let unassigned : c.in_ok-count_sum-3.field-0 < 2 ^ 64 = search rules in
    is_sum a b c.in_ok-count_sum.field-0 c.in_ok-count_sum-2.field-0 c.in_ok-count_sum-3.field-0 c.in_ok-account_sums.field-0.items
    c.first.invariant c.second.invariant alike c.in_ok-count_sum.ensures.added c.in_ok-count_sum-2.ensures.added c.in_ok-count_sum-3.ensures.added
    (c.in_ok-account_sums.ensures.added.0 ∙ (λ i. added_accounts (c.deref.ensures.value i) (c.deref-2.ensures.value i)))
    reports disputed unassigned c.in_ok-account_sums.ensures.added.1

pub returns-clause-statement : goal.returns-clause-statement
returns-clause-statement c =
    let a : Stated = record { period = c.first.inside.period; reports = c.first.inside.reports; disputed = c.first.inside.disputed; unassigned = c.first.inside.unassigned; accounts = c.first.inside.accounts.items } in
    let b : Stated = record { period = c.second.inside.period; reports = c.second.inside.reports; disputed = c.second.inside.disputed; unassigned = c.second.inside.unassigned; accounts = c.second.inside.accounts.items } in
    let alike : AreAlike a b = search rules in
    let reports : c.in_ok-count_sum.field-0 < 2 ^ 64 = search rules in
    let disputed : c.in_ok-count_sum-2.field-0 < 2 ^ 64 = search rules in
    let unassigned : c.in_ok-count_sum-3.field-0 < 2 ^ 64 = search rules in
    is_sum a b c.in_ok-count_sum.field-0 c.in_ok-count_sum-2.field-0 c.in_ok-count_sum-3.field-0 c.in_ok-account_sums.field-0.items
    c.first.invariant c.second.invariant alike c.in_ok-count_sum.ensures.added c.in_ok-count_sum-2.ensures.added c.in_ok-count_sum-3.ensures.added
    (c.in_ok-account_sums.ensures.added.0 ∙ (λ i. added_accounts (c.deref.ensures.value i) (c.deref-2.ensures.value i)))
    reports disputed unassigned c.in_ok-account_sums.ensures.added.1
