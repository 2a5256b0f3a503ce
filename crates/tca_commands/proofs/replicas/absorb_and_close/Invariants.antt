use Rattle.std.proofs.Common.{[], take}
use Rattle.tca_ingest.specs.Closed.{replicas_of}
use Rattle.tca_commands.specs.inside.Absorbs.{AbsorbsEach}
use Rattle.tca_commands.proofs.replicas.absorb_and_close.Given as goal

-- the pass had its replica absorb what it lacked of those so far
abbrev pub invariant-loop-other : goal.invariant-loop-other
invariant-loop-other g l = AbsorbsEach (replicas_of (take l.other-index l.others)) (record { number = l.mine.number; calls = [] }) l.mine
