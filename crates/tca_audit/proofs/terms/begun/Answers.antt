use Rattle.std.proofs.Common.{◌∙◌, ap}
use Rattle.tca_meters.specs.declared.any_meter.AnyMeter.{AnyMeter}
use Rattle.tca_meters.specs.AnyMeters.{any_rule}
use Rattle.tca_meters.specs.Termed.{termed_rule}
use Rattle.tca_audit.proofs.terms.begun.Goals as goal

pub returns : goal.returns
unfolding termed_rule
returns c = λ i. record { term = 0; levels = (c.opening.ensures ∙ ap (λ (x : AnyMeter). (any_rule x).opening) c.first.ensures) i }
