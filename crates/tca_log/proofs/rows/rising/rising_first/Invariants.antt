use Rattle.std.proofs.Common.{◌≡◌, ◌<◌, ◌≤◌, length, take}
use Rattle.std.specs.List.Sorted.{IsPermutation, IsStrictlySortedBy}
use Rattle.tca_log.proofs.rows.rising.rising_first.Given as goal

abbrev pub invariant-loop-at : goal.invariant-loop-at
invariant-loop-at g l = record {
  some : 0 < l.rising;
  bound : l.rising ≤ l.at;
  long : length l.rows ≡ length l.fn.rows;
  rises : IsStrictlySortedBy g.K.Ord.cmp (take l.rising l.rows);
  moved : IsPermutation l.fn.rows l.rows;
}
