use Rattle.std.proofs.Common.{◌∙◌, ap, arith, length}
use Rattle.tca_gossip.specs.Replicas.{chain_of}
use Rattle.tca_gossip.proofs.AbsorbSteps.{rests_start, rests_bound, rests_counted, count_end, limit_at}
use Rattle.tca_gossip.proofs.absorb.count_rests.Goals as goal

pub loop-run-init : goal.loop-run-init
loop-run-init c = let start = rests_start (chain_of c.args.contents.now.replica) c.args.contents.now.replica in start.1

pub overflow_add-count : goal.overflow_add-count
overflow_add-count c =
    let before = rests_bound (chain_of c.args.contents.now.replica) c.args.runs.now c.loop-run.run-index c.run-item.result c.requires c.loop-run-test.true c.run-item.is in
    let few = limit_at c.args.runs.now c.loop-run.run-index c.run-item.result c.requires c.loop-run-test.true c.run-item.is in
    omega (arith, before, few, c.loop-run.invariant, c.origin-origin.ensures.range, ap length c.reports.ensures)

pub loop-run-preserved : goal.loop-run-preserved
loop-run-preserved c =
    let held = chain_of c.args.contents.now.replica in
    let have = ap length (c.chain-have.ensures.items ∙ ap held c.origin-origin.ensures.value) in
    rests_counted held c.args.runs.now c.loop-run.run-index c.run-item.result c.loop-run.count c.saturating_sub.result c.loop-run-test.true c.run-item.is c.loop-run.invariant (omega (arith, have, ap length c.reports.ensures, c.start.ensures))

pub returns : goal.returns
returns c = count_end (chain_of c.args.contents.now.replica) c.args.runs.now c.loop-run.run-index c.loop-run.count c.loop-run-test.false c.loop-run.invariant
