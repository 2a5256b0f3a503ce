use Rattle.std.proofs.Common.{rules, subst}
use Rattle.tca_figures.specs.Sums.{AllFit, FitsAccount, added_account, added_spans}
use Rattle.tca_figures.specs.Figures.{AllFit64}
use Rattle.tca_figures.proofs.Sound.{both_parts}
use Rattle.tca_figures.proofs.sum.account_sum.Goals as goal

pub returns-in_err-span-clause-refused : goal.returns-in_err-span-clause-refused
returns-in_err-span-clause-refused c =
    let i = c.loop-sum.invariant in
    let range = c.in_err-span.ensures.range in
    let wide : ¬ FitsAccount (added_account c.args.account.now c.args.other.now) = λ f. range.1
    (both_parts (λ s. AllFit64 s.sums) c.loop-sum.sum.spans (added_spans c.loop-sum.left.now c.loop-sum.right.now) (subst AllFit i.2 f.1)).1 in
    search (rules, wide, range.0)

pub returns-in_default-clause-refused : goal.returns-in_default-clause-refused
returns-in_default-clause-refused c = search rules
