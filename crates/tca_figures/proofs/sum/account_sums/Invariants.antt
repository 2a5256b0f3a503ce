use Rattle.std.proofs.Common.{◌≡◌, ◌++◌, length}
use Rattle.std.specs.List.{AllByRecursion}
use Rattle.tca_figures.specs.Sums.{AreInOrder, FitsAccount, added_accounts, names}
use Rattle.tca_figures.proofs.sum.account_sums.Given as goal

abbrev pub invariant-loop-account : goal.invariant-loop-account
invariant-loop-account l = (added_accounts l.accounts l.others ≡ l.sums.items ++ added_accounts l.left l.right) × (names l.left ≡ names l.right)
    × AllByRecursion FitsAccount l.sums.items × AllByRecursion (λ a. AreInOrder a.spans) l.left × AllByRecursion (λ a. AreInOrder a.spans) l.right

abbrev pub decreases-loop-account : goal.decreases-loop-account
decreases-loop-account l = length l.left
