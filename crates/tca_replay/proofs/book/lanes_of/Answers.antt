use Rattle.std.proofs.lemmas.Grind.{common_steps}
use Rattle.std.proofs.Common.{arith}
use Rattle.tca_replay.proofs.Loops.{first_more}
use Rattle.tca_replay.proofs.book.lanes_of.Goals as goal

pub loop-n-preserved : goal.loop-n-preserved
loop-n-preserved g c =
    rw (c.in_ok-push.ensures.items, c.new-lane.ensures, c.period.ensures.value) (first_more c.args.plan.now c.args.k c.loop-n.n c.loop-n.lanes.items c.meter.result c.other.result c.loop-n.invariant (omega (arith, c.accounts-n-end.ensures.value)) c.meter.ensures.value c.other.ensures)

pub meter-requires : goal.meter-requires
meter-requires g c = grind (arith, common_steps)

pub other-requires : goal.other-requires
other-requires g c = grind (arith, common_steps)

pub new-lane-requires-clause-some_time : goal.new-lane-requires-clause-some_time
new-lane-requires-clause-some_time g c = grind (arith, common_steps)

pub new-lane-requires-clause-time : goal.new-lane-requires-clause-time
new-lane-requires-clause-time g c = grind (arith, common_steps)

pub new-lane-requires-clause-some_rows : goal.new-lane-requires-clause-some_rows
new-lane-requires-clause-some_rows g c = grind (arith, common_steps)

pub new-lane-requires-clause-few_rows : goal.new-lane-requires-clause-few_rows
new-lane-requires-clause-few_rows g c = grind (arith, common_steps)

pub returns-clause-empty : goal.returns-clause-empty
returns-clause-empty g c = grind (arith, common_steps)
