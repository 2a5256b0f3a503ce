use Rattle.std.proofs.Common.{◌≡◌, true, take}
use Rattle.std.specs.List.Sorted.{IsStrictlySortedBy}
use Rattle.tca_join.specs.Sets.{has}
use Rattle.tca_log.proofs.rows.rising.are_among.Given as goal

-- each key so far ties with a row, and the rows that are left are some of them
abbrev pub invariant-loop-key : goal.invariant-loop-key
invariant-loop-key g l = record {
  rises : IsStrictlySortedBy g.K.Ord.cmp l.left;
  within : (q : g.row.K.Denot) → has g.K.Ord.cmp l.left q ≡ true → has g.K.Ord.cmp l.rows q ≡ true;
  found : (q : g.row.K.Denot) → has g.K.Ord.cmp (take l.key-index l.keys) q ≡ true → has g.K.Ord.cmp l.rows q ≡ true;
}
