use Rattle.std.proofs.Common.{◌≡◌, ◌+◌, false, ◌∷◌, [], drop, sym, ap, subst, ◌∙◌, arith}
use Rattle.std.proofs.lemmas.List.{drop_all}
use Rattle.tca_log.specs.inside.Spans.{IsAmong, is_of, slot, widths}
use Rattle.tca_log.proofs.Slots.{among_none, cut, first_within, later_among, slot_first, slot_later, widths_first}
use Rattle.tca_log.proofs.spans.slot_of.Goals as goal

pub overflow_sub-result : goal.overflow_sub-result
overflow_sub-result c =
    let s = c.span-item.result in
    let rest = drop (c.loop-span.span-index + 1) c.args.spans.now in
    let at = cut c.args.spans.now c.loop-span.span-index s c.loop-span-test.true c.span-item.is in
    let among : IsAmong (s ∷ rest) c.args.identity = subst (λ l. IsAmong l c.args.identity) at c.loop-span.invariant.among in
    let within = first_within s rest c.args.identity among (sym c.is_of.ensures ∙ c.if-is_of.true) in
    omega (arith, within.1)

pub returns-then-is_of : goal.returns-then-is_of
returns-then-is_of c =
    let s = c.span-item.result in
    let rest = drop (c.loop-span.span-index + 1) c.args.spans.now in
    let at = cut c.args.spans.now c.loop-span.span-index s c.loop-span-test.true c.span-item.is in
    let first = slot_first s rest c.args.identity (sym c.is_of.ensures ∙ c.if-is_of.true) in
    omega (arith, ap (λ l. slot l c.args.identity) at, first, c.loop-span.invariant.number)

pub overflow_add-before : goal.overflow_add-before
overflow_add-before c =
    let s = c.span-item.result in
    let rest = drop (c.loop-span.span-index + 1) c.args.spans.now in
    let at = cut c.args.spans.now c.loop-span.span-index s c.loop-span-test.true c.span-item.is in
    omega (arith, ap widths at, widths_first s rest, c.loop-span.invariant.total, c.width-before.ensures.width, c.requires.bound)

pub loop-span-preserved : goal.loop-span-preserved
loop-span-preserved c =
    let s = c.span-item.result in
    let i = c.args.identity in
    let rest = drop (c.loop-span.span-index + 1) c.args.spans.now in
    let at = cut c.args.spans.now c.loop-span.span-index s c.loop-span-test.true c.span-item.is in
    let among : IsAmong (s ∷ rest) i = subst (λ l. IsAmong l i) at c.loop-span.invariant.among in
    let other : is_of s i ≡ false = sym c.is_of.ensures ∙ c.if-is_of.false in
    record {
      among = later_among s rest i among other;
      number = omega (arith, ap (λ l. slot l i) at, slot_later s rest i other, c.loop-span.invariant.number, c.width-before.ensures.width);
      total = omega (arith, ap widths at, widths_first s rest, c.loop-span.invariant.total, c.width-before.ensures.width);
    }

pub returns : goal.returns
returns c =
    let none : drop c.loop-span.span-index c.args.spans.now ≡ [] = drop_all c.loop-span.span-index c.args.spans.now (omega (arith, c.loop-span-test.false)) in
    absurd (among_none c.args.identity (subst (λ l. IsAmong l c.args.identity) none c.loop-span.invariant.among))
