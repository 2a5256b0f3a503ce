use Rattle.std.proofs.Common.{rules}
use Rattle.tca_meters.proofs.trtcm.TrTcmMeter.offer.Goals as goal

pub returns-then-eq-2 : goal.returns-then-eq-2
returns-then-eq-2 c = search rules
