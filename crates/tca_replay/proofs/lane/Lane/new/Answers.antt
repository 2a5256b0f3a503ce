use Rattle.std.proofs.Common.{ap}
use Rattle.tca_replay.specs.declared.run.Terms.{Terms}
use Rattle.tca_replay.specs.inside.Standings.{metering}
use Rattle.tca_replay.proofs.Rooms.{lane_empty}
use Rattle.tca_replay.proofs.lane.Lane.new.Goals as goal

pub invariant_of-result : goal.invariant_of-result
invariant_of-result g c =
    let m = g.M.Meter in
    let t : Terms = record { other = c.args.other; period = c.args.period } in
    let w = metering (m.rule c.args.meter) t in
    lane_empty w c.args.k c.new.result c.begin-standing.result c.new-2.result.items c.new-3.result.items _ _ c.requires.some_time c.requires.some_rows c.requires.few_rows (ap (λ s. s.rows) c.new.ensures) c.new-2.ensures.items c.new-3.ensures.items (c.begin-standing.ensures t)
