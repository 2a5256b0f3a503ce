use Rattle.std.proofs.lemmas.Grind.{common_steps}
use Rattle.std.proofs.Common.{◌≡◌, ◌<◌, ◌≤◌, List, length, get_or, set, ap, ◌∙◌, arith}
use Rattle.tca_meters.specs.Termed.{TermedMeter}
use Rattle.tca_replay.specs.Lanes.{LaneView, lane_resumed}
use Rattle.tca_replay.specs.Books.{steps_of, changed_rows}
use Rattle.tca_replay.proofs.Loops.{mapped_all, get_mapped, set_mapped, sum_more, sum_all, steps_bound, rows_bound}
use Rattle.tca_replay.proofs.book.resume_all.Goals as goal

pub loop-n-preserved : goal.loop-n-preserved
loop-n-preserved g c =
    let l = c.loop-n in
    let xs = c.args.lanes.now.items in
    let d = c.index_mut-lane.result.now in
    let inside : l.n < length xs = omega (arith, c.len-n-end.ensures, c.args.lanes.now.ok.0) in
    let here : d ≡ get_or xs l.n d = c.index_mut-lane.ensures.value ∙ ap (λ (ls : List (LaneView TermedMeter)). get_or ls l.n d) l.invariant.lanes ∙ get_mapped lane_resumed l.n xs d in
    let now : c.resume.new.self ≡ lane_resumed (get_or xs l.n d) = c.resume.ensures.lane ∙ ap lane_resumed here in
    let step : c.resume.result.steps ≤ steps_of d d.changed = steps_bound d c.resume.result.steps c.resume.ensures.none c.resume.ensures.steps in
    let least : changed_rows d d.changed ≤ c.resume.result.steps = rows_bound d c.resume.result.steps c.resume.ensures.all in
    record {
      lanes = ap (λ (ls : List (LaneView TermedMeter)). set ls l.n c.resume.new.self) l.invariant.lanes ∙ set_mapped lane_resumed l.n xs d c.resume.new.self inside now;
      steps = omega (arith, sum_more (λ (x : LaneView TermedMeter). steps_of x x.changed) l.n xs d inside, ap (λ (x : LaneView TermedMeter). steps_of x x.changed) here, step, l.invariant.steps, c.saturating_add-steps.ensures);
      all = omega (arith, sum_more (λ (x : LaneView TermedMeter). changed_rows x x.changed) l.n xs d inside, ap (λ (x : LaneView TermedMeter). changed_rows x x.changed) here, least, l.invariant.all, c.saturating_add-steps.ensures);
    }

pub returns-clause-lanes : goal.returns-clause-lanes
returns-clause-lanes g c =
    let xs = c.args.lanes.now.items in
    c.loop-n.invariant.lanes ∙ mapped_all lane_resumed c.loop-n.n xs (omega (arith, c.len-n-end.ensures, c.args.lanes.now.ok.0))

pub returns-clause-steps : goal.returns-clause-steps
returns-clause-steps g c =
    let xs = c.args.lanes.now.items in
    omega (arith, c.loop-n.invariant.steps, sum_all (λ (x : LaneView TermedMeter). steps_of x x.changed) c.loop-n.n xs (omega (arith, c.len-n-end.ensures, c.args.lanes.now.ok.0)))

pub returns-clause-all : goal.returns-clause-all
returns-clause-all g c =
    let xs = c.args.lanes.now.items in
    omega (arith, c.loop-n.invariant.all, sum_all (λ (x : LaneView TermedMeter). changed_rows x x.changed) c.loop-n.n xs (omega (arith, c.len-n-end.ensures, c.args.lanes.now.ok.0)))

pub loop-n-init : goal.loop-n-init
loop-n-init g c = grind (arith, common_steps)

pub index_mut-lane-requires : goal.index_mut-lane-requires
index_mut-lane-requires g c = grind (arith, common_steps)
