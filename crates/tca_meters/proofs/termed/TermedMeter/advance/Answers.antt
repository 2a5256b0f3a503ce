use Rattle.std.proofs.Common.{ℕ, ◌∙◌, ap}
use Rattle.tca_meters.specs.declared.any_meter.AnyMeter.{AnyMeter}
use Rattle.tca_meters.specs.declared.termed.InTerm.{InTerm}
use Rattle.tca_meters.specs.AnyMeters.{any_rule}
use Rattle.tca_meters.specs.Termed.{begun, termed_rule}
use Rattle.tca_meters.proofs.Slots.{filled_from, filled_since}
use Rattle.tca_meters.proofs.termed.TermedMeter.advance.Goals as goal

pub returns : goal.returns
unfolding termed_rule
returns c =
    let m = c.args.self.now in
    let from = c.args.from in
    let to = c.args.to in
    let found : InTerm × ℕ = (c.enter-since.new.state, c.enter-since.result) in
    let meter = ap (λ (x : AnyMeter). (any_rule x).filled found.1 to found.0.levels) c.meter_of.ensures in
    (λ i. record { term = found.0.term; levels = (c.advance-levels.ensures ∙ meter) i })
    ∙ ap (λ (e : InTerm × ℕ). filled_from m to e) c.enter-since.ensures.entered
    ∙ filled_since m from to c.args.state (begun m from to)
