use Rattle.std.proofs.Common.{◌≡◌, ◌+◌, length}
use Rattle.tca_log.specs.Rows.Ordered.{without_each}
use Rattle.tca_log.proofs.OrderedRows.Passing.{ArePassing}
use Rattle.tca_log.proofs.rows.beyond.count_beyond.Given as goal

abbrev pub invariant-loop-key : goal.invariant-loop-key
invariant-loop-key g l = record {
  passing : ArePassing g.K.Ord.cmp l.key-iterator l.rows.rows l.finder;
  count : l.count + length (without_each g.K.Ord.cmp l.rows.rows l.key-iterator) ≡ length (without_each g.K.Ord.cmp l.rows.rows l.fn.keys) + length l.key-iterator;
}
