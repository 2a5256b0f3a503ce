use Rattle.std.proofs.Common.{◌≡◌, length, rules}
use Rattle.tca_ingest.proofs.Collecting.{none_more}
use Rattle.tca_ingest.proofs.in_order.are_empty.Goals as goal

pub loop-calls-preserved : goal.loop-calls-preserved
loop-calls-preserved c =
    let none : length c.calls-item.result.now ≡ 0 = search rules in
    none_more c.args.left.now c.loop-calls.calls-index c.calls-item.result c.loop-calls-test.true c.calls-item.is none c.loop-calls.invariant
