use Rattle.std.proofs.lemmas.Grind.{common_steps}
use Rattle.std.proofs.Common.{◌∙◌, ap, arith, length}
use Rattle.tca_gossip.specs.Replicas.{ReplicaView, with_origin}
use Rattle.std.proofs.Common.{take}
use Rattle.tca_gossip.proofs.Appends.{appended_name}
use Rattle.tca_gossip.proofs.AbsorbSteps.{reports_start, report_state, report_stop, report_ends, chain_room}
use Rattle.tca_gossip.proofs.absorb.append_all.Goals as goal

pub loop-report-init : goal.loop-report-init
loop-report-init c = record { state = reports_start c.args.contents.now.replica c.args.origin; count = omega arith; stays = λ kept. kept }

pub append-requires-clause-own : goal.append-requires-clause-own
append-requires-clause-own c is =
    let named = ap (λ (v : ReplicaView). v.name) c.loop-report.invariant.state ∙ appended_name c.args.contents.now.replica (with_origin c.args.origin (take c.loop-report.report-index c.args.reports.now)) in
    absurd (omega (arith, c.loop-report-test.true, ap length (c.requires.own (is ∙ named))))

pub append-requires-clause-other : goal.append-requires-clause-other
append-requires-clause-other c not-own =
    chain_room c.args.contents.now.replica c.loop-report.contents.replica c.args.origin c.args.reports.now c.loop-report.report-index c.loop-report.invariant.state c.known.ensures.replica.rises c.loop-report-test.true c.requires.few

pub loop-report-preserved : goal.loop-report-preserved
loop-report-preserved c = record {
  state = report_state c.args.contents.now.replica c.loop-report.contents.replica c.args.origin c.args.reports.now c.loop-report.report-index c.loop-report.invariant.state c.append.new.self.replica c.report-item.result c.loop-report-test.true c.report-item.is c.in-Ok.ensures.ok;
  count = omega (arith, c.loop-report.invariant.count);
  stays = λ kept. c.append.ensures.stays (c.loop-report.invariant.stays kept);
}

pub returns-in-Err-clause-stop : goal.returns-in-Err-clause-stop
returns-in-Err-clause-stop c =
    report_stop c.args.contents.now.replica c.loop-report.contents.replica c.args.origin c.args.reports.now c.loop-report.report-index c.loop-report.invariant.state c.append.new.self.replica c.report-item.result c.loop-report.taken c.in-Err.cause c.loop-report-test.true c.report-item.is c.loop-report.invariant.count c.in-Err.ensures.err c.in-Err.ensures.fault

pub returns-clause-state : goal.returns-clause-state
returns-clause-state c = report_ends c.args.contents.now.replica c.loop-report.contents.replica c.args.origin c.args.reports.now c.loop-report.report-index c.loop-report-test.false c.loop-report.invariant.state

pub offset_bounds-reports-report-index : goal.offset_bounds-reports-report-index
offset_bounds-reports-report-index c = grind (arith, common_steps)

pub overflow_add-taken : goal.overflow_add-taken
overflow_add-taken c = grind (arith, common_steps)

pub returns-clause-count : goal.returns-clause-count
returns-clause-count c = grind (arith, common_steps)

pub returns-in-Err-clause-stays : goal.returns-in-Err-clause-stays
returns-in-Err-clause-stays c kept = c.append.ensures.stays (c.loop-report.invariant.stays kept)

pub returns-clause-stays : goal.returns-clause-stays
returns-clause-stays c kept = c.loop-report.invariant.stays kept
