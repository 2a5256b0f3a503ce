use Rattle.std.proofs.Common.{◌≡◌, ◌-◌, ◌≤◌, length, drop}
use Rattle.tca_log.specs.inside.Chunks.{joined}
use Rattle.tca_log.proofs.rows.locate.from_row.Given as goal

abbrev pub invariant-loop-at : goal.invariant-loop-at
invariant-loop-at g l = record {
  rest : drop l.left (joined (drop l.at l.chunks)) ≡ drop l.row (joined l.chunks);
  left : l.left ≤ length (joined (drop l.at l.chunks));
  inside : l.at ≤ length l.chunks;
}

abbrev pub decreases-loop-at : goal.decreases-loop-at
decreases-loop-at g l = length l.chunks - l.at
