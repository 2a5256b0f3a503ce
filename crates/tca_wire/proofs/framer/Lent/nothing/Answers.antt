use Rattle.std.proofs.Common.{[], refl, arith}
use Rattle.tca_wire.proofs.Lending.{none_lent, no_frames}
use Rattle.tca_wire.proofs.framer.Lent.nothing.Goals as goal

pub returns-clause-none : goal.returns-clause-none
returns-clause-none c = none_lent c.new.result.items [] c.new.ensures.items refl

pub invariant_of-result : goal.invariant_of-result
invariant_of-result c = record { begun_frames = no_frames c.new.result.items (omega (arith, c.new.ensures.len)); whole_frames = no_frames [] refl }
