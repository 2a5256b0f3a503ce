use Rattle.std.proofs.Common.{◌≡◌, ◌++◌, map, not}
use Rattle.tca_join.specs.Sets.{has}
use Rattle.tca_log.proofs.OrderedRows.Passing.{ArePassing}
use Rattle.tca_log.proofs.rows.beyond.are_beyond.Given as goal

abbrev pub invariant-loop-key : goal.invariant-loop-key
invariant-loop-key g l = record {
  passing : ArePassing g.K.Ord.cmp l.key-iterator l.rows.rows l.finder;
  so_far : l.beyond.items ++ map (λ q. not (has g.K.Ord.cmp l.rows.rows q)) l.key-iterator ≡ map (λ q. not (has g.K.Ord.cmp l.rows.rows q)) l.keys;
}
