use Rattle.std.proofs.Common.{◌≡◌, ◌++◌}
use Rattle.tca_log.specs.Rows.Ordered.{without_each}
use Rattle.tca_log.proofs.OrderedRows.Passing.{ArePassing}
use Rattle.tca_log.proofs.rows.beyond.difference.Given as goal

abbrev pub invariant-loop-key : goal.invariant-loop-key
invariant-loop-key g l = record {
  passing : ArePassing g.K.Ord.cmp l.key-iterator l.rows.rows l.finder;
  so_far : l.rest.items ++ without_each g.K.Ord.cmp l.rows.rows l.key-iterator ≡ without_each g.K.Ord.cmp l.rows.rows l.fn.keys;
}
