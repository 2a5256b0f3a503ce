use Rattle.std.proofs.Common.{rules}
use Rattle.tca_meters.specs.Termed.{termed_rule}
use Rattle.tca_meters.proofs.termed.TermedMeter.offer.Goals as goal

pub returns : goal.returns
unfolding termed_rule
returns c = search rules
