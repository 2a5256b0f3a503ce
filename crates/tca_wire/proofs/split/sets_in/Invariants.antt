use Rattle.std.proofs.Common.{◌≡◌, ◌+◌, ◌⊎◌, length}
use Rattle.std.specs.Prelude.{IsOk}
use Rattle.tca_wire.specs.Walks.{walk}
use Rattle.tca_wire.specs.Messages.{judged, set_front, sets_of}
use Rattle.tca_wire.proofs.split.sets_in.Given as goal

abbrev pub invariant-loop-rest : goal.invariant-loop-rest
invariant-loop-rest l = record {
  so_far : walk set_front l.sets.items l.at l.rest ≡ sets_of l.octets;
  place : l.at + length l.rest ≡ 16 + length l.octets;
  first : ((l.at ≡ 16) × (l.rest ≡ l.octets)) ⊎ IsOk (judged 16 l.octets);
}

abbrev pub decreases-loop-rest : goal.decreases-loop-rest
decreases-loop-rest l = length l.rest
