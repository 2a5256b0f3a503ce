-- How many rows stay as one comes or goes.
use Rattle.std.proofs.Common.{◌≡◌, ◌≤◌, min, true, false, cond, List, refl, arith, ap, Option, Some, None}
use Rattle.std.specs.List.Sorted.{IsStrictlySortedBy}
use Rattle.std.specs.Ordering.{is_lt}
use Rattle.std.specs.Cmp.{tied_itself}
use Rattle.tca_report.specs.report.Reports.{PacketReport, report_cmp}
use Rattle.tca_report.proofs.lemmas.report.Order.{report_total}
use Rattle.tca_join.specs.Sets.{put}
use Rattle.tca_log.specs.Rows.Ordered.{rank, without}
use Rattle.tca_log.proofs.OrderedRows.Ranks.{after_less, rank-le, rank_mono, rank_put_low, rank_without_low}
use Rattle.tca_replay.specs.Lanes.{least, lower_of, kept, row_of}

-- the rows that stay, once r came or went: news is the list then, in which no lower report has another rank
pub record Stays (changed : Option PacketReport) (rows news : List PacketReport) (r : PacketReport) : Type 0 where
  pub less : rank report_cmp (lower_of changed r) news ≤ kept changed rows
  pub low : rank report_cmp (lower_of changed r) news ≤ rank report_cmp r rows
  pub is : rank report_cmp (lower_of changed r) news ≡ least (row_of changed rows) (rank report_cmp r rows)

itself : (r : PacketReport) → is_lt (report_cmp r r) ≡ false
itself r = ap is_lt (tied_itself report_total r)

pub stays : (changed : Option PacketReport) (rows news : List PacketReport) (r : PacketReport) → ((m : PacketReport) → is_lt (report_cmp r m) ≡ false → rank report_cmp m news ≡ rank report_cmp m rows) → Stays changed rows news r
stays None rows news r same =
    let e = same r (itself r) in
    record { less = omega (arith, e, rank-le report_cmp report_total r rows); low = omega (arith, e); is = e }
stays (Some q) rows news r same =
    let t : (rank report_cmp (lower_of (Some q) r) news ≤ rank report_cmp q rows) × ((rank report_cmp (lower_of (Some q) r) news ≤ rank report_cmp r rows) × (rank report_cmp (lower_of (Some q) r) news ≡ min (rank report_cmp q rows) (rank report_cmp r rows))) = elim (is_lt (report_cmp q r)) as (λ b. is_lt (report_cmp q r) ≡ b → (rank report_cmp (cond b q r) news ≤ rank report_cmp q rows) × ((rank report_cmp (cond b q r) news ≤ rank report_cmp r rows) × (rank report_cmp (cond b q r) news ≡ min (rank report_cmp q rows) (rank report_cmp r rows)))) [
      | true ↦ λ h.
          let low = after_less report_cmp report_total q r h in
          let e = same q low in
          let le = rank_mono report_cmp report_total q r rows low in
          (omega (arith, e), (omega (arith, e, le), omega (arith, e, le)))
      | false ↦ λ h.
          let e = same r (itself r) in
          let le = rank_mono report_cmp report_total r q rows h in
          (omega (arith, e, le), (omega (arith, e), omega (arith, e, le)))
    ] refl in
    record { less = t.0; low = t.1.0; is = t.1.1 }

pub stays_put : (changed : Option PacketReport) (rows : List PacketReport) (r : PacketReport) → Stays changed rows (put report_cmp r rows) r
stays_put changed rows r = stays changed rows (put report_cmp r rows) r (λ m n. rank_put_low report_cmp report_total m r rows n)

pub stays_less : (changed : Option PacketReport) (rows : List PacketReport) (r : PacketReport) → IsStrictlySortedBy report_cmp rows → Stays changed rows (without report_cmp r rows) r
stays_less changed rows r s = stays changed rows (without report_cmp r rows) r (λ m n. rank_without_low report_cmp report_total m r rows n)
