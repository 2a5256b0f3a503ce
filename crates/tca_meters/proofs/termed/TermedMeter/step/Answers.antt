use Rattle.std.proofs.Common.{◌≡◌, ℕ, ◌∙◌, ap}
use Rattle.tca_meters.specs.declared.any_meter.AnyMeter.{AnyMeter}
use Rattle.tca_meters.specs.declared.colour.Colour.{Colour}
use Rattle.tca_meters.specs.declared.levels.Levels.{Levels}
use Rattle.tca_meters.specs.declared.termed.InTerm.{InTerm}
use Rattle.tca_meters.specs.AnyMeters.{any_rule}
use Rattle.tca_meters.specs.Packets.{answer}
use Rattle.tca_meters.specs.Termed.{begun, judged_in_term, termed_rule}
use Rattle.tca_meters.proofs.Slots.{filled_from, filled_since}
use Rattle.tca_meters.proofs.termed.TermedMeter.step.Goals as goal

-- the answer of the meter of the term that was entered
whole : (c : goal.After-step) → judged_in_term c.args.self.now (filled_from c.args.self.now c.args.time (c.enter-since.new.state, c.enter-since.result)) c.args.octets c.args.pre
    ≡ answer (termed_rule c.args.self.now) c.args.state.now c.args.last (record { time = c.args.time; octets = c.args.octets; pre = c.args.pre })
unfolding termed_rule
whole c =
    let a = c.args in
    let m = a.self.now in
    ap (λ (e : InTerm × ℕ). judged_in_term m (filled_from m a.time e) a.octets a.pre) c.enter-since.ensures.entered
    ∙ ap (λ (s : InTerm). judged_in_term m s a.octets a.pre) (filled_since m a.last a.time a.state.now (begun m a.last a.time))

abbrev its_answer : goal.After-step → AnyMeter → Colour × Levels
its_answer c meter = answer (any_rule meter) c.enter-since.new.state.levels c.enter-since.result (record { time = c.args.time; octets = c.args.octets; pre = c.args.pre })

pub returns-clause-colour : goal.returns-clause-colour
returns-clause-colour c =
    c.step.ensures.colour
    ∙ ap (λ (x : AnyMeter). (its_answer c x).0) c.meter_of-meter.ensures
    ∙ ap (λ (p : Colour × InTerm). p.0) (whole c)

pub returns-clause-after : goal.returns-clause-after
returns-clause-after c =
    let levels = c.step.ensures.after ∙ ap (λ (x : AnyMeter). (its_answer c x).1) c.meter_of-meter.ensures in
    (λ i. record { term = c.enter-since.new.state.term; levels = levels i })
    ∙ ap (λ (p : Colour × InTerm). p.1) (whole c)
