use Rattle.std.proofs.Common.{◌≡◌, false, sym, ◌∙◌}
use Rattle.tca_log.specs.declared.span.Span.{Span}
use Rattle.tca_log.specs.inside.Spans.{is_of}
use Rattle.tca_log.proofs.Slots.{taken_more}
use Rattle.tca_log.proofs.spans.place_of.Goals as goal

pub loop-at-preserved : goal.loop-at-preserved
loop-at-preserved c =
    taken_more (λ (s : Span). is_of s c.args.identity ≡ false) c.args.spans.now c.loop-at.at c.index-spans-at.result c.loop-at-test.true c.index-spans-at.is c.loop-at.invariant (sym c.is_of.ensures ∙ c.if-is_of.false)
