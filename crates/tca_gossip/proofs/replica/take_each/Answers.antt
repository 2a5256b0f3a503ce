use Rattle.std.proofs.lemmas.Grind.{common_steps}
use Rattle.std.proofs.Common.{◌≡◌, ◌∙◌, ap, sym, take, false, arith}
use Rattle.tca_report.specs.report.Reports.{report_cmp}
use Rattle.tca_join.specs.Sets.{has}
use Rattle.tca_gossip.specs.Replicas.{take_all}
use Rattle.tca_gossip.specs.Answers.{IsRefusedFor}
use Rattle.tca_gossip.proofs.Takes.{take_all_is}
use Rattle.tca_gossip.proofs.TakeSteps.{at_start, none_at_start, state_step, fresh_step, stale_step, at_stop}
use Rattle.tca_gossip.proofs.replica.take_each.Goals as goal
use Rattle.tca_gossip.proofs.replica.take_each.Goals.{then-new, else-new}

pub loop-report-init : goal.loop-report-init
loop-report-init c = record { state = at_start c.args.contents.now.replica; fresh = none_at_start c.args.contents.now.replica.log; count = omega arith; within = omega arith; stays = λ kept. kept }

pub loop-report-preserved : goal.loop-report-preserved
loop-report-preserved c =
    let old = c.args.contents.now.replica in
    let now = c.loop-report.contents.replica in
    let i = c.loop-report.report-index in
    record {
      state = state_step old now c.take_report.new.self.replica c.args.reports.now i c.report-item.result c.loop-report-test.true c.report-item.is c.loop-report.invariant.state c.in-Ok.ensures.state;
      fresh = elim c.if-new.branch [
        | then-new w ↦ rw w.fresh-is (fresh_step old now c.take_report.new.self.replica c.args.reports.now i c.report-item.result c.loop-report-test.true c.report-item.is c.loop-report.invariant.state c.loop-report.fresh c.in-Ok.new c.loop-report.invariant.fresh c.in-Ok.ensures.fresh w.if-new.true)
        | else-new w ↦ rw w.fresh-is (stale_step old now c.take_report.new.self.replica c.args.reports.now i c.report-item.result c.loop-report-test.true c.report-item.is c.loop-report.invariant.state c.loop-report.fresh c.in-Ok.new c.loop-report.invariant.fresh c.in-Ok.ensures.fresh w.if-new.false)
      ];
      count = omega arith;
      within = elim c.if-new.branch [ then-new w ↦ omega arith | else-new w ↦ omega arith ];
      stays = λ kept. c.take_report.ensures.stays (c.loop-report.invariant.stays kept);
    }

pub returns-in-Err-clause-state : goal.returns-in-Err-clause-state
returns-in-Err-clause-state c =
    c.in-Err.ensures.err ∙ c.loop-report.invariant.state ∙ ap (λ n. take_all c.args.contents.now.replica (take n c.args.reports.now)) (sym c.loop-report.invariant.count) ∙ take_all_is c.args.contents.now.replica (take c.loop-report.taken c.args.reports.now)

pub returns-in-Err-clause-stop : goal.returns-in-Err-clause-stop
returns-in-Err-clause-stop c = (
  omega (arith, c.loop-report-test.true, c.loop-report.invariant.count),
  at_stop (λ r. (has report_cmp c.take_report.new.self.replica.log r ≡ false) × IsRefusedFor c.in-Err.fault c.take_report.new.self.replica.log r) c.args.reports.now c.loop-report.report-index c.loop-report.taken c.report-item.result c.loop-report-test.true c.report-item.is c.loop-report.invariant.count
      (rw c.in-Err.ensures.err (c.in-Err.ensures.unheld, c.in-Err.ensures.fault)),
)

pub returns-clause-state : goal.returns-clause-state
returns-clause-state c =
    c.loop-report.invariant.state ∙ ap (λ n. take_all c.args.contents.now.replica (take n c.args.reports.now)) (sym c.loop-report.invariant.count) ∙ take_all_is c.args.contents.now.replica (take c.loop-report.taken c.args.reports.now)

pub offset_bounds-reports-report-index : goal.offset_bounds-reports-report-index
offset_bounds-reports-report-index c = grind (arith, common_steps)

pub overflow_add-taken : goal.overflow_add-taken
overflow_add-taken c = grind (arith, common_steps)

pub overflow_add-fresh : goal.overflow_add-fresh
overflow_add-fresh c = grind (arith, common_steps)

pub returns-in-Err-clause-within : goal.returns-in-Err-clause-within
returns-in-Err-clause-within c = grind (arith, common_steps)

pub returns-in-Err-clause-fresh : goal.returns-in-Err-clause-fresh
returns-in-Err-clause-fresh c = grind (arith, common_steps)

pub returns-clause-within : goal.returns-clause-within
returns-clause-within c = grind (arith, common_steps)

pub returns-clause-fresh : goal.returns-clause-fresh
returns-clause-fresh c = grind (arith, common_steps)

pub returns-clause-stop : goal.returns-clause-stop
returns-clause-stop c = grind (arith, common_steps)

pub returns-in-Err-clause-stays : goal.returns-in-Err-clause-stays
returns-in-Err-clause-stays c kept = c.take_report.ensures.stays (c.loop-report.invariant.stays kept)

pub returns-clause-stays : goal.returns-clause-stays
returns-clause-stays c kept = c.loop-report.invariant.stays kept
