use Rattle.std.proofs.lemmas.Grind.{common_steps}
use Rattle.std.proofs.Common.{◌≡◌, true, false, arith}
use Rattle.tca_report.specs.report.Reports.{report_cmp}
use Rattle.tca_join.specs.Sets.{has}
use Rattle.tca_replay.specs.inside.Standings.{metering}
use Rattle.tca_replay.proofs.Lanes.{lane_took, view_put}
use Rattle.tca_replay.proofs.lane.Lane.put.Goals as goal

pub invariant_of-self : goal.invariant_of-self
invariant_of-self g c =
    let m = g.M.Meter in
    let l = c.self.inside in
    let w = metering (m.rule l.meter) l.terms in
    let ready : l.ready ≡ true = rw (← c.self.view_is) at c.requires.ready in
    let new : has report_cmp l.rows.rows c.args.report ≡ false = rw (← c.self.view_is) at c.requires.new in
    rw c.lower.ensures (lane_took w l.every l.rows c.put.new.self l.changed l.standing l.marks.items l.closed.items _ _ c.args.report (rw ready at c.self.invariant) c.put.ensures c.len-all.ensures.rises new)

pub returns : goal.returns
returns g c =
    let l = c.self.inside in
    rw (c.lower.ensures, ← c.self.view_is) (view_put l.meter l.terms.other l.terms.period l.every l.rows.rows c.put.new.self.rows l.changed l.ready c.args.report c.put.ensures)

pub put-requires-clause-ready : goal.put-requires-clause-ready
put-requires-clause-ready g c = grind (arith, common_steps)

pub put-requires-clause-new : goal.put-requires-clause-new
put-requires-clause-new g c = grind (arith, common_steps)

pub put-requires-clause-few : goal.put-requires-clause-few
put-requires-clause-few g c = grind (arith, common_steps)
