use Rattle.std.proofs.Common.{rules}
use Rattle.tca_meters.proofs.step.meter_packet.Goals as goal

pub returns : goal.returns
returns g c = search rules
