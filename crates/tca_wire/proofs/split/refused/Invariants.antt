use Rattle.std.proofs.Common.{◌≡◌, ◌+◌, List, length}
use Rattle.tca_wire.specs.Walks.{walk}
use Rattle.tca_wire.specs.Messages.{set_front}
use Rattle.tca_wire.specs.declared.message.SetSpan.{SetSpan}
use Rattle.tca_wire.proofs.split.refused.Given as goal

-- whatever sets stand before, the rest of the octets decides
abbrev pub invariant-loop-rest : goal.invariant-loop-rest
invariant-loop-rest l = record {
  so_far : (before : List SetSpan) → (now : List SetSpan) × (walk set_front now l.at l.rest ≡ walk set_front before l.initial.at l.octets);
  place : l.at + length l.rest ≡ l.initial.at + length l.octets;
}

abbrev pub decreases-loop-rest : goal.decreases-loop-rest
decreases-loop-rest l = length l.rest
