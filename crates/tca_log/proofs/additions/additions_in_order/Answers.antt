use Rattle.std.proofs.Common.{◌∙◌, arith}
use Rattle.tca_log.proofs.ReportAdditions.{fresh_grows, disputed_grows, reports_more, reports_end}
use Rattle.tca_log.proofs.additions.additions_in_order.Goals as goal

pub loop-key-preserved : goal.loop-key-preserved
loop-key-preserved g c =
    rw c.in_ok-add.ensures (record {
      so_far = reports_more c.args.index.now.rows c.args.disputed.now.rows c.args.keys.now c.loop-key.key-index c.key-item.result c.loop-key.additions (omega arith) c.key-item.is ∙ c.loop-key.invariant.so_far;
      few = omega (arith, fresh_grows c.args.index.now.rows c.args.disputed.now.rows c.key-item.result c.loop-key.additions, c.loop-key.invariant.few);
      few_disputed = omega (arith, disputed_grows c.args.index.now.rows c.args.disputed.now.rows c.key-item.result c.loop-key.additions, c.loop-key.invariant.few_disputed);
    })

pub returns : goal.returns
returns g c = reports_end c.args.index.now.rows c.args.disputed.now.rows c.args.keys.now c.loop-key.key-index c.loop-key.additions (omega arith) ∙ c.loop-key.invariant.so_far
