use Rattle.std.proofs.lemmas.Grind.{common_steps}
use Rattle.std.proofs.Common.{◌≡◌, true, arith}
use Rattle.tca_report.specs.report.Reports.{report_cmp}
use Rattle.tca_join.specs.Sets.{has}
use Rattle.tca_replay.specs.inside.Standings.{metering}
use Rattle.tca_replay.proofs.Lanes.{lane_lost, view_less}
use Rattle.tca_replay.proofs.lane.Lane.withdraw.Goals as goal

pub invariant_of-self : goal.invariant_of-self
invariant_of-self g c =
    let m = g.M.Meter in
    let l = c.self.inside in
    let w = metering (m.rule l.meter) l.terms in
    let there : has report_cmp l.rows.rows c.args.report.now ≡ true = rw (← c.self.view_is) at c.requires in
    rw c.lower.ensures (lane_lost w l.every l.rows c.withdraw.new.self l.changed l.standing l.marks.items l.closed.items l.ready _ _ c.args.report.now c.self.invariant c.withdraw.ensures.rows c.withdraw.ensures.ready c.len-all.ensures.rises there)

pub returns : goal.returns
returns g c =
    let l = c.self.inside in
    rw (c.lower.ensures, ← c.self.view_is) (view_less l.meter l.terms.other l.terms.period l.every l.rows.rows c.withdraw.new.self.rows l.changed l.ready c.args.report.now c.withdraw.ensures.rows c.len-all.ensures.rises)

pub withdraw-requires : goal.withdraw-requires
withdraw-requires g c = grind (arith, common_steps)
