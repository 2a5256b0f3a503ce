use Rattle.std.proofs.lemmas.Grind.{common_steps}
use Rattle.std.proofs.Common.{refl, arith}
use Rattle.tca_accounts.specs.Plans.{account_of}
use Rattle.tca_replay.specs.Lanes.{lane_ready}
use Rattle.tca_replay.specs.Books.{AreLanes, BookView, Fits}
use Rattle.tca_replay.proofs.Books.{room_either, lanes_kept, fits_ready, is_ready, on_ok}
use Rattle.tca_replay.proofs.book.Book.ready.Goals as goal

pub invariant_of-self : goal.invariant_of-self
invariant_of-self g c = record {
  lanes_are = room_either c.make_room.result (AreLanes c.self.inside.plan c.self.inside.k) c.make_room.ensures.ok c.make_room.ensures.err
      (lanes_kept c.self.inside.plan c.self.inside.k lane_ready (λ l. refl) (account_of c.self.inside.plan c.args.report.now) c.self.inside.lanes.items c.self.invariant.lanes_are)
      c.self.invariant.lanes_are;
  some = c.self.invariant.some;
  small = c.self.invariant.small;
}

pub returns-clause-room : goal.returns-clause-room
returns-clause-room g c =
    let i = c.self.inside in
    let view : BookView = record { plan = i.plan; k = i.k; lanes = i.lanes.items; reports = i.reports; disputed = i.disputed; unassigned = i.unassigned } in
    on_ok c.make_room.result (λ now. rw now (is_ready view c.args.report.now)) c.make_room.ensures.ok

pub returns-clause-fits : goal.returns-clause-fits
returns-clause-fits g c rs fits =
    let i = c.self.inside in
    let view : BookView = record { plan = i.plan; k = i.k; lanes = i.lanes.items; reports = i.reports; disputed = i.disputed; unassigned = i.unassigned } in
    let old : Fits rs view = rw (← c.self.view_is) at fits in
    room_either c.make_room.result (λ lanes. Fits rs (record { plan = i.plan; k = i.k; lanes = lanes; reports = i.reports; disputed = i.disputed; unassigned = i.unassigned })) c.make_room.ensures.ok c.make_room.ensures.err
    (fits_ready view rs old c.args.report.now) old

pub make_room-requires : goal.make_room-requires
make_room-requires g c = grind (arith, common_steps)
