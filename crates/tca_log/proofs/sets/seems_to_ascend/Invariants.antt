use Rattle.std.proofs.Common.{length, ◌-◌, ◌<◌}
use Rattle.tca_log.proofs.sets.seems_to_ascend.Given as goal

-- the last place is before the one that is looked at
abbrev pub invariant-loop-at : goal.invariant-loop-at
invariant-loop-at l = l.last < l.at

abbrev pub decreases-loop-at : goal.decreases-loop-at
decreases-loop-at l = length l.list - l.at
