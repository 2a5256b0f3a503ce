use Rattle.std.proofs.Common.{◌≡◌, ◌++◌, length}
use Rattle.std.specs.List.{concat, AllByRecursion}
use Rattle.tca_wire.specs.Frames.{IsFrame, octets_of}
use Rattle.tca_wire.proofs.framer.frames_in.Given as goal

abbrev pub invariant-loop-length : goal.invariant-loop-length
invariant-loop-length l = record {
  whole : l.octets ≡ concat (octets_of l.messages.items) ++ l.rest;
  each : AllByRecursion IsFrame (octets_of l.messages.items);
}

abbrev pub decreases-loop-length : goal.decreases-loop-length
decreases-loop-length l = length l.rest
