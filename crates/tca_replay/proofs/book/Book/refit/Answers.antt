use Rattle.std.proofs.Common.{arith, length, ap}
use Rattle.tca_meters.specs.Termed.{TermedMeter}
use Rattle.std.proofs.Common.{List}
use Rattle.tca_log.specs.Disputes.{disputed}
use Rattle.tca_replay.specs.Lanes.{LaneView}
use Rattle.tca_replay.specs.Books.{BookView, Fits, all_steps, row_count}
use Rattle.tca_replay.proofs.Books.{fits_settled, lanes_resumed}
use Rattle.tca_replay.proofs.Filling.{fits_filled, row_counts}
use Rattle.tca_replay.proofs.Loops.{resumed_steps}
use Rattle.tca_replay.proofs.Totals.{resumed_all}
use Rattle.tca_replay.proofs.book.Book.refit.Goals as goal

pub returns-clause-fits : goal.returns-clause-fits
returns-clause-fits g c =
    let i = c.self.inside in
    let rs = c.args.log.now in
    let lanes = c.in_ok-lanes.lanes.items in
    let number = c.in_ok-lanes.unassigned in
    let filled : BookView = record { plan = i.plan; k = i.k; lanes = lanes; reports = length rs; disputed = length (disputed rs); unassigned = number } in
    let view : BookView = record { plan = i.plan; k = i.k; lanes = c.resume_all-steps.new.lanes.items; reports = c.len-self-inside.result; disputed = c.disputed-self-inside.result; unassigned = number } in
    let fits : Fits rs view = rw (c.resume_all-steps.ensures.lanes, c.len-self-inside.ensures.length, c.disputed-self-inside.ensures) (fits_settled filled rs (fits_filled i.plan i.k rs number lanes c.in_ok-lanes.ensures)) in
    fits

pub returns-clause-resumed : goal.returns-clause-resumed
returns-clause-resumed g c = rw c.resume_all-steps.ensures.lanes (resumed_all c.in_ok-lanes.lanes.items)

pub returns-clause-steps : goal.returns-clause-steps
returns-clause-steps g c = omega (arith, c.resume_all-steps.ensures.steps, resumed_steps c.in_ok-lanes.lanes.items, ap (λ (ls : List (LaneView TermedMeter)). all_steps ls) c.resume_all-steps.ensures.lanes)

pub invariant_of-self : goal.invariant_of-self
invariant_of-self g c = record {
  lanes_are = rw c.resume_all-steps.ensures.lanes (lanes_resumed c.self.inside.plan c.self.inside.k c.in_ok-lanes.lanes.items c.in_ok-lanes.ensures.lanes_are);
  some = c.self.invariant.some;
  small = c.self.invariant.small;
}

pub returns-clause-all : goal.returns-clause-all
returns-clause-all g c = omega (arith, c.resume_all-steps.ensures.all, row_counts c.in_ok-lanes.lanes.items c.in_ok-lanes.ensures.changed, ap (λ (ls : List (LaneView TermedMeter)). row_count ls) c.resume_all-steps.ensures.lanes)
