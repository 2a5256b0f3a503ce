use Rattle.tca_wire.proofs.Framings.{pieces}
use Rattle.tca_wire.proofs.framer.pieces_join.Goals as goal

pub returns : goal.returns
returns c = pieces
