use Rattle.std.proofs.lemmas.Grind.{common_steps}
use Rattle.std.proofs.Common.{◌≡◌, ◌≤◌, ◌+◌, length, ap, arith}
use Rattle.tca_gossip.specs.Runs.{RunView}
use Rattle.tca_gossip.proofs.RunSteps.{further_runs}
use Rattle.tca_gossip.proofs.run.are_runs.Goals as goal

pub loop-run-preserved : goal.loop-run-preserved
loop-run-preserved c =
    let run : RunView = c.run-item.result in
    let origin : c.run.inside.origin ≡ run.origin = ap (λ (r : RunView). r.origin) c.run.view_is in
    let start : c.run.inside.start ≡ run.start = ap (λ (r : RunView). r.start) c.run.view_is in
    let count : length c.run.inside.reports ≡ length run.reports = ap (λ (r : RunView). length r.reports) c.run.view_is in
    let within : run.start + length run.reports ≤ 4194304 = omega (arith, c.if-end-gt-MOST_REPORTS.false, c.saturating_add-end.ensures, c.len.ensures, start, count) in
    rw origin (further_runs c.args.runs.now c.loop-run.least c.loop-run.run-index run c.loop-run-test.true c.run-item.is c.loop-run.invariant within (omega (arith, c.if-origin-least.false, origin)))

pub offset_bounds-runs-run-index : goal.offset_bounds-runs-run-index
offset_bounds-runs-run-index c = grind (arith, common_steps)

pub returns-then-end-gt-MOST_REPORTS-clause-yes : goal.returns-then-end-gt-MOST_REPORTS-clause-yes
returns-then-end-gt-MOST_REPORTS-clause-yes c = grind (arith, common_steps)

pub returns-then-end-gt-MOST_REPORTS-clause-no : goal.returns-then-end-gt-MOST_REPORTS-clause-no
returns-then-end-gt-MOST_REPORTS-clause-no c = grind (arith, common_steps)

pub overflow_add-least : goal.overflow_add-least
overflow_add-least c = grind (arith, common_steps)

pub returns-clause-yes : goal.returns-clause-yes
returns-clause-yes c = grind (arith, common_steps)

pub returns-clause-no : goal.returns-clause-no
returns-clause-no c = grind (arith, common_steps)
