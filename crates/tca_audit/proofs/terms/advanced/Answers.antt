use Rattle.std.proofs.Common.{◌≡◌, ◌+◌, ◌<◌, ◌≤◌, suc, length, ◌∙◌, ap, add-one, refl, arith}
use Rattle.std.proofs.lemmas.List.{get_or_read}
use Rattle.tca_meters.specs.declared.any_meter.AnyMeter.{AnyMeter}
use Rattle.tca_meters.specs.AnyMeters.{any_rule}
use Rattle.tca_meters.specs.Termed.{term, termed_rule}
use Rattle.tca_meters.proofs.Terms.{have_times}
use Rattle.tca_audit.specs.inside.Metering.{levels_of, state_of}
use Rattle.tca_audit.proofs.TermsInTurn.{at_earlier, at_last, at_later, by_end, starts_here}
use Rattle.tca_audit.proofs.terms.advanced.Goals as goal
use Rattle.tca_audit.proofs.terms.advanced.Goals.{then-last-start+then-start-to, else-last-start, else-last-start-via-then-last-start+else-start-to, else-last-start-via-else-last-start}

pub filled-requires-clause-order : goal.filled-requires-clause-order
filled-requires-clause-order c =
    by_end c.args.meter.now c.args.from c.args.to (state_of c.args.state) c.requires.order c.loop-n.n (state_of c.loop-n.next) c.loop-n.last c.loop-n.invariant

pub loop-n-preserved : goal.loop-n-preserved
loop-n-preserved c =
    let m = c.args.meter.now in
    let k = c.loop-n.n in
    let from = c.args.from in
    let to = c.args.to in
    let s = state_of c.args.state in
    let next = state_of c.loop-n.next in
    let last = c.loop-n.last in
    let is = c.terms-n-end.ensures.range in
    let inside : k < length m.later = omega (arith, c.terms-n-end.ensures.value) in
    let t = c.term-start.result in
    let here : t ≡ term m (suc k) = get_or_read m.later k t inside c.term-start.ensures.value (0, m.first) in
    let order = by_end m from to s c.requires.order k next last c.loop-n.invariant in
    elim c.if-last-start.branch [
      | then-last-start+then-start-to w ↦
          rw (w.next-is, w.last-is) (starts_here m from to s is k next last inside c.loop-n.invariant _ t.0 (k + 1) t here (add-one k) (λ i. record { term = k + 1; levels = w.opening.ensures i }) refl w.if-last-start.true w.if-start-to.true)
      | else-last-start w ↦
          rw (w.next-is, w.last-is, add-one k) (elim w.else-last-start.branch [
            | else-last-start-via-then-last-start+else-start-to w' ↦ at_later m from to s is k next last inside c.loop-n.invariant (rw here at w'.if-start-to.false)
            | else-last-start-via-else-last-start w' ↦
                let early : (term m (suc k)).0 ≤ last = rw here at w'.if-last-start.false in
                at_earlier m from to s is k next last inside c.loop-n.invariant early (omega arith)
          ])
    ]

pub returns : goal.returns
unfolding termed_rule
returns c =
    let m = c.args.meter.now in
    let next = c.loop-n.next in
    let inside = (have_times m c.terms-n-end.ensures.range c.args.to).inside in
    let levels = c.filled.ensures ∙ ap (λ (x : AnyMeter). (any_rule x).filled c.loop-n.last c.args.to (levels_of next.buckets)) c.meter_of.ensures in
    (λ i. record { term = next.term; levels = levels i })
    ∙ at_last m c.args.from c.args.to (state_of c.args.state) c.loop-n.n (state_of next) c.loop-n.last (omega (arith, inside, c.terms-n-end.ensures.value)) c.loop-n.invariant
