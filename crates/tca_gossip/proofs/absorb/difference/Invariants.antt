use Rattle.std.proofs.Common.{length, drop, ◌-◌, ◌≡◌, ◌≤◌}
use Rattle.tca_join.specs.Chains.{differ_at}
use Rattle.tca_join.proofs.Differ.{shifted}
use Rattle.tca_gossip.specs.Runs.{same_report}
use Rattle.tca_gossip.proofs.absorb.difference.Given as goal

abbrev pub invariant-loop-i : goal.invariant-loop-i
invariant-loop-i l = record {
  so_far : differ_at same_report l.first l.second ≡ shifted l.i (differ_at same_report (drop l.i l.first) (drop l.i l.second));
  first_in : l.i ≤ length l.first;
  second_in : l.i ≤ length l.second;
}

abbrev pub decreases-loop-i : goal.decreases-loop-i
decreases-loop-i l = length l.first - l.i
