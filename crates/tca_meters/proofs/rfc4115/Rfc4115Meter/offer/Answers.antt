use Rattle.std.proofs.Common.{rules}
use Rattle.tca_meters.proofs.rfc4115.Rfc4115Meter.offer.Goals as goal

pub returns : goal.returns
returns c = search rules
