use Rattle.std.proofs.Common.{◌≡◌, ◌++◌, length}
use Rattle.std.specs.Prelude.{option_copied}
use Rattle.std.specs.List.Sorted.{IsStrictlySortedBy}
use Rattle.tca_log.specs.Rows.Ordered.{before_key, from_key, seen_first}
use Rattle.tca_log.proofs.rows.left.Left.move_before.Given as goal

-- the rows that were moved, and then those that are still to be moved
abbrev pub invariant-loop-self : goal.invariant-loop-self
invariant-loop-self g l = record {
  rises : IsStrictlySortedBy g.K.Ord.cmp (seen_first (option_copied l.self-inside.next) l.self-inside.later);
  moved : l.list.items ++ before_key g.K.Ord.cmp l.key (seen_first (option_copied l.self-inside.next) l.self-inside.later) ≡ l.fn.list.items ++ before_key g.K.Ord.cmp l.key l.fn.self;
  left : from_key g.K.Ord.cmp l.key (seen_first (option_copied l.self-inside.next) l.self-inside.later) ≡ from_key g.K.Ord.cmp l.key l.fn.self;
}

abbrev pub decreases-loop-self : goal.decreases-loop-self
decreases-loop-self g l = length (seen_first (option_copied l.self-inside.next) l.self-inside.later)
