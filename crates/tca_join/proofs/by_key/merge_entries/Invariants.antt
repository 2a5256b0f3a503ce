use Rattle.std.proofs.Common.{drop, length, ◌+◌, ◌-◌, ◌≤◌}
use Rattle.tca_join.proofs.Steps.{IsMerge}
use Rattle.tca_join.proofs.by_key.merge_entries.Given as goal

abbrev pub invariant-loop-i : goal.invariant-loop-i
invariant-loop-i g l = record {
  merge : IsMerge g.V.Join.clash g.V.Join.full g.V.Join.joined l.first l.second l.out.items (drop l.i l.first) (drop l.j l.second);
  first_in : l.i ≤ length l.first;
  second_in : l.j ≤ length l.second;
}

abbrev pub decreases-loop-i : goal.decreases-loop-i
decreases-loop-i g l = (length l.first - l.i) + (length l.second - l.j)
