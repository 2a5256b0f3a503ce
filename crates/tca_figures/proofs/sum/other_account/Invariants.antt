use Rattle.std.proofs.Common.{◌≡◌, ◌+◌, ◌++◌, List, length}
use Rattle.tca_figures.specs.Figures.{StatedAccount}
use Rattle.tca_figures.specs.Reading.{line_number}
use Rattle.tca_figures.specs.Lines.{account_lines}
use Rattle.tca_figures.specs.Sums.{names}
use Rattle.std.specs.List.{flat_map}
use Rattle.tca_figures.proofs.sum.other_account.Given as goal

abbrev pub invariant-loop-account : goal.invariant-loop-account
invariant-loop-account l = (front : List StatedAccount) × (others : List StatedAccount) × (l.accounts ≡ front ++ l.left) × (l.others ≡ others ++ l.right)
    × (names front ≡ names others) × (l.line ≡ line_number (5 + length (flat_map account_lines others)))

abbrev pub decreases-loop-account : goal.decreases-loop-account
decreases-loop-account l = length l.left
