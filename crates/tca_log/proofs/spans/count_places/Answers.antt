use Rattle.std.proofs.Common.{◌≡◌, ◌+◌, [], drop, ap, arith}
use Rattle.std.proofs.lemmas.List.{drop_all}
use Rattle.tca_log.specs.inside.Spans.{widths}
use Rattle.tca_log.proofs.Slots.{cut, widths_first, widths_none}
use Rattle.tca_log.proofs.spans.count_places.Goals as goal

pub overflow_add-count : goal.overflow_add-count
overflow_add-count c = omega (arith, c.loop-span.invariant.bound, c.loop-span-test.true, c.requires, c.width-count.ensures.most)

pub loop-span-preserved : goal.loop-span-preserved
loop-span-preserved c =
    let s = c.span-item.result in
    let rest = drop (c.loop-span.span-index + 1) c.args.spans.now in
    let at = cut c.args.spans.now c.loop-span.span-index s c.loop-span-test.true c.span-item.is in
    record {
      count = omega (arith, ap widths at, widths_first s rest, c.loop-span.invariant.count, c.width-count.ensures.width);
      bound = omega (arith, c.loop-span.invariant.bound, c.width-count.ensures.most);
    }

pub returns-clause-all : goal.returns-clause-all
returns-clause-all c =
    let none : drop c.loop-span.span-index c.args.spans.now ≡ [] = drop_all c.loop-span.span-index c.args.spans.now (omega (arith, c.loop-span-test.false)) in
    omega (arith, ap widths none, widths_none, c.loop-span.invariant.count)
