use Rattle.std.proofs.lemmas.Grind.{common_steps}
use Rattle.std.proofs.Common.{◌∙◌, subst, sym, arith}
use Rattle.tca_gossip.specs.Runs.{AreRuns, summary_count}
use Rattle.tca_gossip.proofs.DeltaSteps.{delta_skip, delta_add, delta_ends, right_delta}
use Rattle.tca_gossip.proofs.delta.delta_for.Goals as goal
use Rattle.tca_gossip.proofs.delta.delta_for.Goals.{then-from-items+in_ok-reports+in_ok-push, else-from-items}

pub loop-entry-preserved : goal.loop-entry-preserved
loop-entry-preserved c =
    let counts = summary_count c.args.since.now in
    let es = c.args.chains.now in
    let h = rw c.entries-entry-items.ensures.all at c.loop-entry-test.true in
    let is = rw c.entries-entry-items.ensures.all at c.entry-item.is in
    let from = c.counted-from.result in
    elim c.if-from-items.branch [
      | then-from-items+in_ok-reports+in_ok-push w ↦
          delta_add counts es c.loop-entry.entry-index c.entry-item.result h is c.loop-entry.runs.items c.if-from-items.runs.items c.loop-entry.invariant from w.in_ok-reports.reports c.counted-from.ensures
          (rw c.items-items.ensures at w.if-from-items.true)
          w.in_ok-reports.ensures
          (rw w.runs-is w.in_ok-push.ensures.items)
      | else-from-items w ↦
          delta_skip counts es c.loop-entry.entry-index c.entry-item.result h is c.loop-entry.runs.items c.if-from-items.runs.items c.loop-entry.invariant from c.counted-from.ensures
          (rw c.items-items.ensures at w.if-from-items.false)
          (rw w.runs-is)
    ]

pub ascending-requires : goal.ascending-requires
ascending-requires c =
    let h = rw c.entries-entry-items.ensures.all at c.loop-entry-test.false in
    subst AreRuns (sym (delta_ends (summary_count c.args.since.now) c.args.chains.now c.loop-entry.entry-index c.loop-entry.runs.items h c.loop-entry.invariant)) (right_delta (summary_count c.args.since.now) c.args.chains.now c.known.ensures)

pub returns : goal.returns
returns c =
    let h = rw c.entries-entry-items.ensures.all at c.loop-entry-test.false in
    c.ascending.ensures ∙ delta_ends (summary_count c.args.since.now) c.args.chains.now c.loop-entry.entry-index c.loop-entry.runs.items h c.loop-entry.invariant

pub loop-entry-init : goal.loop-entry-init
loop-entry-init c = grind (arith, common_steps)

pub offset_bounds-entry-items-entry-index : goal.offset_bounds-entry-items-entry-index
offset_bounds-entry-items-entry-index c = grind (arith, common_steps)

pub overflow_cast-from : goal.overflow_cast-from
overflow_cast-from c = grind (arith, common_steps)

pub overflow_cast-from-then-from-items : goal.overflow_cast-from-then-from-items
overflow_cast-from-then-from-items c = grind (arith, common_steps)

pub returns-in_err-reports : goal.returns-in_err-reports
returns-in_err-reports c = grind (arith, common_steps)

pub returns-in_err-push : goal.returns-in_err-push
returns-in_err-push c = grind (arith, common_steps)
