use Rattle.std.proofs.Common.{◌≡◌, [], rules}
use Rattle.tca_ingest.specs.Works.{all_calls, calls_left}
use Rattle.tca_ingest.proofs.Collecting.{none_left, strike_more}
use Rattle.tca_ingest.proofs.in_order.are_in_order.Goals as goal

pub loop-job-preserved : goal.loop-job-preserved
loop-job-preserved g c =
    strike_more c.args.done.now c.loop-job.job c.index-done-job.result (calls_left c.loop-job.left.items) (calls_left c.take_next.new.left.items) (all_calls c.args.passes.now)
    c.loop-job-test.true c.loop-job.invariant (c.take_next.ensures c.if-not-take_next.false)

pub returns-clause-entries : goal.returns-clause-entries
returns-clause-entries g c is =
    let none : calls_left c.loop-job.left.items ≡ [] = search (rules, is) in
    none_left c.args.done.now c.loop-job.job (calls_left c.loop-job.left.items) (all_calls c.args.passes.now) c.loop-job-test.false c.loop-job.invariant none
