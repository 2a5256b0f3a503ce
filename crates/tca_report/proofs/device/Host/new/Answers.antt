use Rattle.std.proofs.Common.{rules}
use Rattle.tca_report.proofs.device.Host.new.Goals as goal

pub returns : goal.returns
returns g c = search rules
