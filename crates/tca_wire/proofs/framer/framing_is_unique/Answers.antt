use Rattle.tca_wire.proofs.FramesOf.{is_stream}
use Rattle.tca_wire.proofs.Framings.{one_framing}
use Rattle.tca_wire.proofs.framer.framing_is_unique.Goals as goal

pub returns-clause-exists : goal.returns-clause-exists
returns-clause-exists c = is_stream

pub returns-clause-unique : goal.returns-clause-unique
returns-clause-unique c = one_framing
