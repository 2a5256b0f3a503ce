use Rattle.std.proofs.lemmas.Grind.{common_steps}
use Rattle.std.proofs.Common.{◌<◌, ◌∷◌, ◌++◌, [], length, take, sym, ap, ◌∙◌, arith}
use Rattle.std.specs.Prelude.{map}
use Rattle.tca_meters.specs.Termed.{TermedMeter}
use Rattle.tca_replay.specs.Lanes.{LaneView}
use Rattle.tca_replay.specs.Books.{lane_tally}
use Rattle.tca_replay.proofs.Loops.{map_more}
use Rattle.tca_replay.proofs.book.tallies.Goals as goal

pub loop-lane-preserved : goal.loop-lane-preserved
loop-lane-preserved g c =
    let l = c.loop-lane in
    let lanes = c.args.lanes.now in
    let d = c.lane-item.result in
    let inside : l.lane-index < length lanes = omega (arith, c.loop-lane-test.true) in
    rw (c.in_ok-push.ensures.items, c.in_ok-tally.ensures, l.invariant) (ap (λ (x : LaneView TermedMeter). map lane_tally (take l.lane-index lanes) ++ lane_tally x ∷ []) c.lane-item.is ∙ sym (map_more lane_tally l.lane-index lanes d inside))

pub loop-lane-init : goal.loop-lane-init
loop-lane-init g c = grind (arith, common_steps)

pub offset_bounds-lanes-lane-index : goal.offset_bounds-lanes-lane-index
offset_bounds-lanes-lane-index g c = grind (arith, common_steps)

pub bounds-lanes-lane-index : goal.bounds-lanes-lane-index
bounds-lanes-lane-index g c = grind (arith, common_steps)

pub tally-requires : goal.tally-requires
tally-requires g c = grind (arith, common_steps)

pub returns : goal.returns
returns g c = grind (arith, common_steps)
