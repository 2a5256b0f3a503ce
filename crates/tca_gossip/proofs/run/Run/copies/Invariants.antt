use Rattle.std.proofs.Common.{◌≡◌, take}
use Rattle.tca_gossip.proofs.run.Run.copies.Given as goal

abbrev pub invariant-loop-run : goal.invariant-loop-run
invariant-loop-run l = l.list.items ≡ take l.run-index l.runs
