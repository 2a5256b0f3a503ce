use Rattle.std.proofs.Common.{◌≡◌}
use Rattle.tca_log.specs.Rows.Ordered.{without_each}
use Rattle.tca_log.proofs.rows.Rows.withdraw_all.Given as goal

-- what is left to take away takes the rest
abbrev pub invariant-loop-key : goal.invariant-loop-key
invariant-loop-key g l = without_each g.K.Ord.cmp l.key-iterator l.self.rows ≡ without_each g.K.Ord.cmp l.other.rows l.fn.self.rows
