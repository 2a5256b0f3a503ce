use Rattle.std.proofs.Common.{◌≡◌, ◌++◌, length}
use Rattle.std.specs.Prelude.{option_copied}
use Rattle.tca_log.specs.Rows.Ordered.{seen_first}
use Rattle.tca_log.proofs.rows.left.Left.move_all.Given as goal

-- the rows that were moved, and then those that are left
abbrev pub invariant-loop-self : goal.invariant-loop-self
invariant-loop-self g l = l.list.items ++ seen_first (option_copied l.self-inside.next) l.self-inside.later ≡ l.fn.list.items ++ l.fn.self

abbrev pub decreases-loop-self : goal.decreases-loop-self
decreases-loop-self g l = length (seen_first (option_copied l.self-inside.next) l.self-inside.later)
