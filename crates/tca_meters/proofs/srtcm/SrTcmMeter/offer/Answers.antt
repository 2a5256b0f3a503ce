use Rattle.std.proofs.Common.{rules}
use Rattle.tca_meters.proofs.srtcm.SrTcmMeter.offer.Goals as goal

pub returns : goal.returns
returns c = search rules
