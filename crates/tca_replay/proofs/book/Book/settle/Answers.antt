use Rattle.std.proofs.lemmas.Grind.{common_steps}
use Rattle.std.proofs.Common.{arith}
use Rattle.tca_replay.specs.Books.{BookView, Fits}
use Rattle.tca_replay.proofs.Books.{lanes_resumed, fits_settled}
use Rattle.tca_replay.proofs.Totals.{resumed_all}
use Rattle.tca_replay.proofs.book.Book.settle.Goals as goal

pub invariant_of-self : goal.invariant_of-self
invariant_of-self g c = record {
  lanes_are = rw c.resume_all.ensures.lanes (lanes_resumed c.self.inside.plan c.self.inside.k c.self.inside.lanes.items c.self.invariant.lanes_are);
  some = c.self.invariant.some;
  small = c.self.invariant.small;
}

pub returns-clause-resumed : goal.returns-clause-resumed
returns-clause-resumed g c = rw c.resume_all.ensures.lanes (resumed_all c.self.inside.lanes.items)

pub returns-clause-fits : goal.returns-clause-fits
returns-clause-fits g c rs fits =
    let i = c.self.inside in
    let view : BookView = record { plan = i.plan; k = i.k; lanes = i.lanes.items; reports = i.reports; disputed = i.disputed; unassigned = i.unassigned } in
    let old : Fits rs view = rw (← c.self.view_is) at fits in
    rw c.resume_all.ensures.lanes (fits_settled view rs old)

pub returns-clause-book : goal.returns-clause-book
returns-clause-book g c = grind (arith, common_steps)

pub returns-clause-steps : goal.returns-clause-steps
returns-clause-steps g c = grind (arith, common_steps)

pub returns-clause-all : goal.returns-clause-all
returns-clause-all g c = grind (arith, common_steps)
