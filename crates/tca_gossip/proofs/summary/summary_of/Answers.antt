use Rattle.std.proofs.Common.{◌∙◌, arith}
use Rattle.tca_gossip.proofs.SummarySteps.{count_set, count_skip, count_start, count_ends}
use Rattle.tca_gossip.proofs.summary.summary_of.Goals as goal
use Rattle.tca_gossip.proofs.summary.summary_of.Goals.{then-count-gt0+in_ok-set, else-count-gt0}

pub loop-entry-init : goal.loop-entry-init
loop-entry-init c = c.new-summary.ensures ∙ count_start

pub loop-entry-preserved : goal.loop-entry-preserved
loop-entry-preserved c =
    let es = c.args.chains.now in
    let h = rw c.entries-entry-items.ensures.all at c.loop-entry-test.true in
    let is = rw c.entries-entry-items.ensures.all at c.entry-item.is in
    elim c.if-count-gt0.branch [
      | then-count-gt0+in_ok-set w ↦ count_set es c.loop-entry.entry-index c.entry-item.result c.entries-entry-items.ensures.rises h is c.loop-entry.summary c.if-count-gt0.summary c.loop-entry.invariant c.len-count.result c.len-count.ensures.length w.if-count-gt0.true (rw w.summary-is w.in_ok-set.ensures.ok)
      | else-count-gt0 w ↦ count_skip es c.loop-entry.entry-index c.entry-item.result c.entries-entry-items.ensures.rises h is c.loop-entry.summary c.if-count-gt0.summary c.loop-entry.invariant c.len-count.result c.len-count.ensures.length (omega (arith, w.if-count-gt0.false)) w.summary-is
    ]

pub returns : goal.returns
returns c =
    let h = rw c.entries-entry-items.ensures.all at c.loop-entry-test.false in
    count_ends c.args.chains.now c.loop-entry.entry-index c.loop-entry.summary h c.loop-entry.invariant
