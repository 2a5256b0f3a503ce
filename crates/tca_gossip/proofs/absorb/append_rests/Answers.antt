use Rattle.std.proofs.lemmas.Grind.{common_steps}
use Rattle.std.proofs.Common.{◌≤◌, subst, arith, length, List}
use Rattle.tca_report.specs.report.Reports.{PacketReport}
use Rattle.tca_gossip.specs.Replicas.{chain_of}
use Rattle.tca_gossip.specs.Runs.{rest_of}
use Rattle.tca_gossip.proofs.AbsorbSteps.{rests_start, run_own, run_room, run_state, run_count, run_stop, rests_end, count_end, rests_bound, rest_bound, origin_length}
use Rattle.tca_gossip.proofs.absorb.append_rests.Goals as goal

pub loop-run-init : goal.loop-run-init
loop-run-init c = let start = rests_start (chain_of c.args.contents.now.replica) c.args.contents.now.replica in record { state = start.0; count_is = start.1; stays = λ kept. kept }

pub append_rest-requires-clause-own : goal.append_rest-requires-clause-own
append_rest-requires-clause-own c =
    run_own c.args.contents.now.replica c.loop-run.contents.replica c.args.runs.now c.loop-run.run-index c.run-item.result c.loop-run-test.true c.run-item.is c.requires.right c.known.ensures.replica.rises c.loop-run.invariant.state c.requires.good

pub append_rest-requires-clause-few : goal.append_rest-requires-clause-few
append_rest-requires-clause-few c =
    let limit = subst (λ o. length (chain_of c.loop-run.contents.replica o) ≤ 4194304) c.origin-origin.ensures.value (subst (λ (l : List PacketReport). length l ≤ 4194304) c.chain-limit.ensures.items c.chain-limit.ensures.limit) in
    run_room c.args.contents.now.replica c.loop-run.contents.replica c.args.runs.now c.loop-run.run-index c.run-item.result c.loop-run-test.true c.run-item.is c.requires.right c.known.ensures.replica.rises c.loop-run.invariant.state limit

pub overflow_add-count : goal.overflow_add-count
overflow_add-count c =
    let before = rests_bound (chain_of c.args.contents.now.replica) c.args.runs.now c.loop-run.run-index c.run-item.result c.requires.right c.loop-run-test.true c.run-item.is in
    let rest = rest_bound c.args.runs.now c.loop-run.run-index c.run-item.result (chain_of c.loop-run.contents.replica) c.requires.right c.loop-run-test.true c.run-item.is in
    omega (arith, before, rest, c.loop-run.invariant.count_is, c.origin-origin.ensures.range, c.in-Ok.ensures.count)

pub overflow_add-result : goal.overflow_add-result
overflow_add-result c =
    let before = rests_bound (chain_of c.args.contents.now.replica) c.args.runs.now c.loop-run.run-index c.run-item.result c.requires.right c.loop-run-test.true c.run-item.is in
    let rest = rest_bound c.args.runs.now c.loop-run.run-index c.run-item.result (chain_of c.loop-run.contents.replica) c.requires.right c.loop-run-test.true c.run-item.is in
    omega (arith, before, rest, c.loop-run.invariant.count_is, c.origin-origin.ensures.range, c.in-Err.ensures.stop.0, origin_length c.run-item.result.origin (rest_of (chain_of c.loop-run.contents.replica) c.run-item.result))

pub loop-run-preserved : goal.loop-run-preserved
loop-run-preserved c = record {
  state = run_state c.args.contents.now.replica c.loop-run.contents.replica c.args.runs.now c.loop-run.run-index c.run-item.result c.loop-run-test.true c.run-item.is c.requires.right c.known.ensures.replica.rises c.loop-run.invariant.state c.append_rest.new.contents.replica c.in-Ok.ensures.state;
  count_is = run_count c.args.contents.now.replica c.loop-run.contents.replica c.args.runs.now c.loop-run.run-index c.run-item.result c.loop-run-test.true c.run-item.is c.requires.right c.known.ensures.replica.rises c.loop-run.invariant.state c.loop-run.count c.in-Ok.more c.loop-run.invariant.count_is c.in-Ok.ensures.count;
  stays = λ kept. c.append_rest.ensures.stays (c.loop-run.invariant.stays kept);
}

pub returns-in-Err-clause-stop : goal.returns-in-Err-clause-stop
returns-in-Err-clause-stop c =
    run_stop c.args.contents.now.replica c.loop-run.contents.replica c.args.runs.now c.loop-run.run-index c.run-item.result c.loop-run-test.true c.run-item.is c.requires.right c.known.ensures.replica.rises c.loop-run.invariant.state c.append_rest.new.contents.replica c.loop-run.count c.in-Err.stop.taken c.in-Err.stop.cause c.loop-run.invariant.count_is c.in-Err.ensures.stop

pub returns-clause-state : goal.returns-clause-state
returns-clause-state c = rests_end c.args.contents.now.replica c.loop-run.contents.replica c.args.runs.now c.loop-run.run-index c.loop-run-test.false c.loop-run.invariant.state

pub returns-clause-count : goal.returns-clause-count
returns-clause-count c = count_end (chain_of c.args.contents.now.replica) c.args.runs.now c.loop-run.run-index c.loop-run.count c.loop-run-test.false c.loop-run.invariant.count_is

pub offset_bounds-runs-run-index : goal.offset_bounds-runs-run-index
offset_bounds-runs-run-index c = grind (arith, common_steps)

pub returns-in-Err-clause-stays : goal.returns-in-Err-clause-stays
returns-in-Err-clause-stays c kept = c.append_rest.ensures.stays (c.loop-run.invariant.stays kept)

pub returns-clause-stays : goal.returns-clause-stays
returns-clause-stays c kept = c.loop-run.invariant.stays kept
