use Rattle.std.proofs.Common.{◌≡◌, length}
use Rattle.std.specs.Prelude.{option_copied}
use Rattle.std.specs.List.Sorted.{IsStrictlySortedBy}
use Rattle.tca_join.specs.Sets.{has}
use Rattle.tca_log.specs.Rows.Ordered.{from_key, seen_first}
use Rattle.tca_log.proofs.rows.left.Left.pass.Given as goal

-- the rows that were passed came before the key
abbrev pub invariant-loop-self : goal.invariant-loop-self
invariant-loop-self g l = record {
  rises : IsStrictlySortedBy g.K.Ord.cmp (seen_first (option_copied l.self-inside.next) l.self-inside.later);
  there : has g.K.Ord.cmp (seen_first (option_copied l.self-inside.next) l.self-inside.later) l.key ≡ has g.K.Ord.cmp l.fn.self l.key;
  left : from_key g.K.Ord.cmp l.key (seen_first (option_copied l.self-inside.next) l.self-inside.later) ≡ from_key g.K.Ord.cmp l.key l.fn.self;
}

abbrev pub decreases-loop-self : goal.decreases-loop-self
decreases-loop-self g l = length (seen_first (option_copied l.self-inside.next) l.self-inside.later)
