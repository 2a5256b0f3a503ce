-- What is kept row by row comes to the tally of the coloured rows.
use Rattle.std.proofs.Common.{◌<◌, ◌≤◌, List, [], ◌∷◌}
use Rattle.std.specs.List.{AllByRecursion}
use Rattle.std.specs.List.Sorted.{IsStrictlySortedBy}
use Rattle.tca_report.specs.report.Reports.{PacketReport, report_cmp}
use Rattle.tca_meters.specs.declared.colour.Colour.{Colour}
use Rattle.tca_accounts.specs.Bills.{coloured_by}
use Rattle.tca_accounts.specs.Metering.{Stands}
use Rattle.tca_accounts.proofs.Bills.{rest_later, from_zero, stands_begun}
use Rattle.tca_accounts.proofs.Steps.{stands_more}
use Rattle.tca_replay.specs.inside.Course.{Metering, Course, course, start, one}

module _ {S : Type 0} (w : Metering S) where
  -- where the metering of coloured reports stands before the later ones
  abbrev pub StandsAt : List (PacketReport × Colour) → List PacketReport → Course S → Type 0
  StandsAt whole later c = Stands w.rule w.other w.period whole later c.metered c.closed c.current

  stands_all : (whole : List (PacketReport × Colour)) (c : Course S) (rows : List PacketReport) → 0 < w.period → AllByRecursion (λ (q : PacketReport). c.metered.time ≤ q.time) rows → IsStrictlySortedBy report_cmp rows → StandsAt whole rows c → StandsAt whole [] (course w c rows)
  unfolding course
  stands_all whole c [] h later rises k = k
  stands_all whole c (r ∷ rows) h later rises k =
      let next = rest_later r rows rises in
      stands_all whole (one w c r) rows h next.0 next.1 (stands_more w.rule w.other w.period whole r rows c.metered c.closed c.current h later.0 k)

  pub stands : (rows : List PacketReport) → 0 < w.period → IsStrictlySortedBy report_cmp rows → StandsAt (coloured_by w.rule w.other rows) [] (course w (start w) rows)
  stands rows h rises = stands_all (coloured_by w.rule w.other rows) (start w) rows h (from_zero rows) rises (stands_begun w.rule w.other w.period rows)
