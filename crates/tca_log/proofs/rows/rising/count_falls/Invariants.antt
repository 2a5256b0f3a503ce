use Rattle.std.proofs.Common.{◌≤◌}
use Rattle.tca_log.proofs.rows.rising.count_falls.Given as goal

abbrev pub invariant-loop-at : goal.invariant-loop-at
invariant-loop-at g l = l.falls ≤ l.at
