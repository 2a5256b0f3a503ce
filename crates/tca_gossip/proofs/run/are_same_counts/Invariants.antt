use Rattle.std.proofs.Common.{◌≡◌, take}
use Rattle.tca_gossip.proofs.run.are_same_counts.Given as goal

abbrev pub invariant-loop-i : goal.invariant-loop-i
invariant-loop-i l = take l.i l.ours ≡ take l.i l.theirs
