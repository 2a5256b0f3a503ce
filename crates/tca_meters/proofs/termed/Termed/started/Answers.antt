use Rattle.std.proofs.Common.{◌∙◌, ap, arith}
use Rattle.std.proofs.lemmas.List.{get_or_default}
use Rattle.tca_meters.specs.Termed.{TermedMeter, term_at}
use Rattle.tca_meters.proofs.Slots.{counted}
use Rattle.tca_meters.proofs.termed.Termed.started.Goals as goal

pub returns-then-time-self : goal.returns-then-time-self
returns-then-time-self c =
    let i = c.self.inside in
    counted i.first i.count i.later.terms c.args.time c.loop-n.n c.self.invariant (omega arith) c.loop-n.invariant (λ inside. rw (get_or_default i.later.terms c.loop-n.n (0, i.first) c.index-self-n.result (omega (arith, c.self.invariant.inside, c.self.invariant.many))) c.if-time-self.true)
    ∙ ap (λ (m : TermedMeter). term_at m c.args.time) c.self.view_is

pub returns : goal.returns
returns c =
    let i = c.self.inside in
    counted i.first i.count i.later.terms c.args.time i.count c.self.invariant (omega arith) (λ k d h. c.loop-n.invariant k d (omega arith)) (λ inside. absurd (omega arith))
    ∙ ap (λ (m : TermedMeter). term_at m c.args.time) c.self.view_is
