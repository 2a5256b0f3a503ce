use Rattle.std.proofs.Common.{◌≡◌}
use Rattle.tca_ingest.proofs.in_order.take_next.Given as goal

abbrev pub invariant-loop-at : goal.invariant-loop-at
invariant-loop-at l = l.left.items ≡ l.fn.left.items
