use Rattle.std.proofs.Common.{◌∙◌, sym, ap}
use Rattle.tca_meters.specs.declared.any_meter.AnyMeter.{AnyMeter}
use Rattle.tca_meters.specs.AnyMeters.{any_rule}
use Rattle.tca_meters.specs.Termed.{termed_rule}
use Rattle.tca_audit.specs.inside.Metering.{levels_of}
use Rattle.tca_audit.proofs.terms.metered.Goals as goal

pub returns : goal.returns
unfolding termed_rule
returns c =
    let next = c.advanced-next.result in
    let found = c.judged-colour.ensures ∙ ap (λ (x : AnyMeter). (any_rule x).judged (levels_of next.buckets) c.args.octets c.args.pre) c.meter_of.ensures in
    rw (sym c.advanced-next.ensures) (λ i. ((found i).0, record { term = next.term; levels = (found i).1 }))
