use Rattle.std.proofs.Common.{List, ap, ◌∙◌}
use Rattle.std.specs.Prelude.{map}
use Rattle.tca_meters.specs.Termed.{TermedMeter}
use Rattle.tca_replay.specs.Lanes.{LaneView}
use Rattle.tca_replay.specs.Books.{BookView, Fits, lane_tally}
use Rattle.tca_replay.proofs.Totals.{bill_is}
use Rattle.tca_replay.proofs.book.Book.totals.Goals as goal

pub returns : goal.returns
returns g c rs fits =
    let i = c.self.inside in
    let view : BookView = record { plan = i.plan; k = i.k; lanes = i.lanes.items; reports = i.reports; disputed = i.disputed; unassigned = i.unassigned } in
    let old : Fits rs view = rw (← c.self.view_is) at fits in
    rw (← c.self.view_is) (bill_is view c.self.invariant.lanes_are rs old c.new.result (c.new.ensures ∙ c.in_ok-tallies.ensures ∙ ap (λ (ls : List (LaneView TermedMeter)). map lane_tally ls) c.deref.ensures.value))
