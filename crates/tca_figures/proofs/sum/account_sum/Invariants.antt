use Rattle.std.proofs.Common.{◌≡◌, ◌+◌, ◌++◌, length}
use Rattle.tca_figures.specs.Figures.{AllFit64, plus}
use Rattle.tca_figures.specs.Sums.{AllFit, AreInOrder, added_spans}
use Rattle.tca_figures.proofs.sum.account_sum.Given as goal

abbrev pub invariant-loop-sum : goal.invariant-loop-sum
invariant-loop-sum l = (l.sum.name ≡ l.account.name) × (l.sum.total ≡ plus l.account.total l.other.total)
    × (added_spans l.account.spans l.other.spans ≡ l.sum.spans ++ added_spans l.left l.right)
    × AllFit l.sum.spans × AreInOrder l.left × AreInOrder l.right × AllFit64 l.sum.total

abbrev pub decreases-loop-sum : goal.decreases-loop-sum
decreases-loop-sum l = length l.left + length l.right
