use Rattle.std.proofs.Common.{length}
use Rattle.tca_wire.proofs.Lending.{IsCut}
use Rattle.tca_wire.proofs.framer.cut_frames.Given as goal

abbrev pub invariant-loop-length : goal.invariant-loop-length
invariant-loop-length l = IsCut l.octets l.rest

abbrev pub decreases-loop-length : goal.decreases-loop-length
decreases-loop-length l = length l.rest
