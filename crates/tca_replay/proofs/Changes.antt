-- Lanes after lists of changes.
use Rattle.std.proofs.Common.{◌≡◌, List, [], ◌∷◌, refl, sym, ap, ◌∙◌}
use Rattle.std.specs.List.Sorted.{IsStrictlySortedBy}
use Rattle.tca_report.specs.report.Reports.{PacketReport, report_cmp}
use Rattle.tca_report.proofs.lemmas.report.Order.{report_total, report_exact}
use Rattle.tca_join.specs.Sets.{has, put}
use Rattle.tca_join.proofs.Sets.{has-put, rises_put, only_one}
use Rattle.tca_log.specs.Rows.Ordered.{without}
use Rattle.tca_log.proofs.Filters.{has-without, rises_without}
use Rattle.tca_meters.specs.Packets.{Rule}
use Rattle.tca_accounts.specs.Bills.{coloured_by, tally_of}
use Rattle.tca_replay.specs.Lanes.{LaneView, lane_put, lane_less, lane_ready, lane_resumed}
use Rattle.tca_replay.specs.Changes.{Change, Put, Withdrawn, rows_after, lane_after, is_left}
use Rattle.tca_replay.specs.ChangeLaws.{tally_in}

pub rows_rise : (changes : List Change) (rows : List PacketReport) → IsStrictlySortedBy report_cmp rows → IsStrictlySortedBy report_cmp (rows_after changes rows)
rows_rise [] rows s = s
rows_rise (Put r ∷ later) rows s = rows_rise later (put report_cmp r rows) (rises_put report_cmp report_total r rows s)
rows_rise (Withdrawn r ∷ later) rows s = rows_rise later (without report_cmp r rows) (rises_without report_cmp report_total report_exact r rows s)

pub rows_left : (changes : List Change) (rows : List PacketReport) (q : PacketReport) → has report_cmp (rows_after changes rows) q ≡ is_left changes q (has report_cmp rows q)
rows_left [] rows q = refl
rows_left (Put r ∷ later) rows q = rows_left later (put report_cmp r rows) q ∙ ap (is_left later q) (has-put report_cmp report_total r rows q)
rows_left (Withdrawn r ∷ later) rows q = rows_left later (without report_cmp r rows) q ∙ ap (is_left later q) (has-without report_cmp report_total report_exact r rows q)

module _ {M S : Type 0} (rule : M → Rule S) where
  pub tally_after : (changes : List Change) (l : LaneView M) → tally_in rule (lane_resumed (lane_after changes l)) ≡ tally_of l.period (coloured_by (rule l.meter) l.other (rows_after changes l.rows))
  tally_after [] l = refl
  tally_after (Put r ∷ later) l = tally_after later (lane_put (lane_ready l) r)
  tally_after (Withdrawn r ∷ later) l = tally_after later (lane_less l r)

  pub tally_same : (a b : List Change) (l : LaneView M) → IsStrictlySortedBy report_cmp l.rows → ((q : PacketReport) → is_left a q (has report_cmp l.rows q) ≡ is_left b q (has report_cmp l.rows q))
      → tally_in rule (lane_resumed (lane_after a l)) ≡ tally_in rule (lane_resumed (lane_after b l))
  tally_same a b l s same =
      let rows : rows_after a l.rows ≡ rows_after b l.rows = only_one report_cmp report_total report_exact (rows_after a l.rows) (rows_after b l.rows) (rows_rise a l.rows s) (rows_rise b l.rows s) (λ q. rows_left a l.rows q ∙ same q ∙ sym (rows_left b l.rows q)) in
      tally_after a l ∙ ap (λ (rs : List PacketReport). tally_of l.period (coloured_by (rule l.meter) l.other rs)) rows ∙ sym (tally_after b l)
