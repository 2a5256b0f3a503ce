use Rattle.std.proofs.Common.{◌∙◌, take}
use Rattle.tca_gossip.proofs.Newcomers.{left_next, mark_is, new_next, none_first, old_next, open_first, set_rises, there_in_set}
use Rattle.tca_gossip.proofs.fresh.fresh_among.Goals as goal
use Rattle.tca_gossip.proofs.fresh.fresh_among.Goals.{then-index+in_ok-push, else-index}

pub loop-report-init : goal.loop-report-init
loop-report-init c = record { left = c.in_ok-is_new.ensures ∙ open_first c.args.log.now c.args.set.now; fresh_is = c.new-fresh.ensures.items ∙ none_first c.args.log.now }

pub are_new-requires : goal.are_new-requires
are_new-requires c = set_rises c.args.set.now c.args.reports.now c.requires

pub place_of-at-requires-clause-rises : goal.place_of-at-requires-clause-rises
place_of-at-requires-clause-rises c = set_rises c.args.set.now c.args.reports.now c.requires

pub place_of-at-requires-clause-there : goal.place_of-at-requires-clause-there
place_of-at-requires-clause-there c = there_in_set c.args.set.now c.args.reports.now c.loop-report.report-index c.report-item.result c.requires c.loop-report-test.true c.report-item.is

pub loop-report-preserved : goal.loop-report-preserved
loop-report-preserved c =
    let log = c.args.log.now in
    let reports = c.args.reports.now in
    let set = c.args.set.now in
    let i = c.loop-report.report-index in
    let r = c.report-item.result in
    let mark = mark_is log (take i reports) set c.loop-report.is_new.items c.place_of-at.result r c.index.result.now c.place_of-at.ensures.at c.loop-report.invariant.left c.index.ensures in
    record {
      left = left_next log reports i r c.loop-report-test.true c.report-item.is set c.place_of-at.result c.loop-report.is_new.items (set_rises set reports c.requires) c.place_of-at.ensures.at c.loop-report.invariant.left;
      fresh_is = elim c.if-index.branch [
        | then-index+in_ok-push w ↦ rw w.fresh-is (w.in_ok-push.ensures.items ∙ new_next log reports i r c.loop-report-test.true c.report-item.is c.loop-report.fresh.items c.index.result.now c.loop-report.invariant.fresh_is mark w.if-index.true)
        | else-index w ↦ rw w.fresh-is (old_next log reports i r c.loop-report-test.true c.report-item.is c.loop-report.fresh.items c.index.result.now c.loop-report.invariant.fresh_is mark w.if-index.false)
      ];
    }
