-- A lane as rows come and go.
use Rattle.std.proofs.Common.{◌≡◌, ℕ, ◌+◌, ◌*◌, Bool, true, false, List, length, get_or, take, refl, sym, ap, subst, ◌∙◌, arith, Option, Some}
use Rattle.std.specs.List.Sorted.{IsStrictlySortedBy}
use Rattle.tca_report.specs.report.Reports.{PacketReport, report_cmp}
use Rattle.tca_report.proofs.lemmas.report.Order.{report_total}
use Rattle.tca_join.specs.Sets.{put, has}
use Rattle.tca_log.specs.Rows.Ordered.{rank, without, Ordered}
use Rattle.tca_log.proofs.OrderedRows.Positions.{length_put, length_without}
use Rattle.tca_accounts.specs.declared.span.Span.{Span}
use Rattle.tca_meters.specs.declared.colour.Colour.{Colour}
use Rattle.tca_replay.specs.declared.run.Standing.{Standing}
use Rattle.tca_replay.specs.declared.run.Mark.{Mark}
use Rattle.tca_replay.specs.inside.Course.{Metering}
use Rattle.tca_replay.specs.inside.Marks.{IsMark}
use Rattle.tca_replay.specs.Lanes.{LaneView, IsLane, lane_put, lane_less, lower_of, row_of}
use Rattle.tca_log.proofs.OrderedRows.Ranks.{take_put, take_without}
use Rattle.tca_replay.proofs.Kept.{stays_put, stays_less}

module _ {S : Type 0} (w : Metering S) where
  pub lane_took : (every : ℕ) (store next : Ordered PacketReport) (changed : Option PacketReport) (standing : Standing S) (all : List (Mark S)) (closed : List Span) (sr mr : ℕ) (r : PacketReport) → IsLane w every store changed standing all closed true sr mr → next.rows ≡ put report_cmp r store.rows → IsStrictlySortedBy report_cmp store.rows → has report_cmp store.rows r ≡ false → IsLane w every next (Some (lower_of changed r)) standing all closed false sr mr
  lane_took every store next changed standing all closed sr mr r l is rises new =
      let s = stays_put changed store.rows r in
      let longer : length next.rows ≡ length store.rows + 1 = ap length is ∙ length_put report_cmp report_total r store.rows new in
      let same : rank report_cmp (lower_of changed r) next.rows ≡ rank report_cmp (lower_of changed r) (put report_cmp r store.rows) = ap (rank report_cmp (lower_of changed r)) is in
      record {
        period = l.period;
        some = l.some;
        small = l.small;
        marks = λ j d h k.
            let n = every * (j + 1) in
            let front : take n next.rows ≡ take n store.rows = ap (take n) is ∙ take_put report_cmp report_total n r store.rows rises (omega (arith, k, same, s.low)) in
            subst (λ (rows : List PacketReport). IsMark w rows closed (get_or all j d)) (sym front) (l.marks j d h (omega (arith, k, same, s.less)));
        reach = omega (arith, same, s.less, l.reach);
        stands = tt;
        spans = omega (arith, longer, l.spans_ready refl);
        room = λ n h. l.room_ready refl n (omega (arith, h, longer));
        store_ready = λ e. absurd cc;
        spans_ready = λ e. absurd cc;
        room_ready = λ e. absurd cc;
      }

  pub lane_lost : (every : ℕ) (store next : Ordered PacketReport) (changed : Option PacketReport) (standing : Standing S) (all : List (Mark S)) (closed : List Span) (ready : Bool) (sr mr : ℕ) (r : PacketReport) → IsLane w every store changed standing all closed ready sr mr → next.rows ≡ without report_cmp r store.rows → next.ready ≡ store.ready → IsStrictlySortedBy report_cmp store.rows → has report_cmp store.rows r ≡ true → IsLane w every next (Some (lower_of changed r)) standing all closed ready sr mr
  lane_lost every store next changed standing all closed ready sr mr r l is still rises there =
      let s = stays_less changed store.rows r rises in
      let shorter : length next.rows + 1 ≡ length store.rows = ap (λ n. n + 1) (ap length is) ∙ length_without report_cmp report_total r store.rows rises there in
      let same : rank report_cmp (lower_of changed r) next.rows ≡ rank report_cmp (lower_of changed r) (without report_cmp r store.rows) = ap (rank report_cmp (lower_of changed r)) is in
      record {
        period = l.period;
        some = l.some;
        small = l.small;
        marks = λ j d h k.
            let n = every * (j + 1) in
            let front : take n next.rows ≡ take n store.rows = ap (take n) is ∙ take_without report_cmp report_total n r store.rows rises (omega (arith, k, same, s.low)) in
            subst (λ (rows : List PacketReport). IsMark w rows closed (get_or all j d)) (sym front) (l.marks j d h (omega (arith, k, same, s.less)));
        reach = omega (arith, same, s.less, l.reach);
        stands = tt;
        spans = omega (arith, shorter, l.spans);
        room = λ n h. l.room n (omega (arith, h, shorter));
        store_ready = λ e. still ∙ l.store_ready e;
        spans_ready = λ e. omega (arith, shorter, l.spans_ready e);
        room_ready = λ e n h. l.room_ready e n (omega (arith, h, shorter));
      }

-- what the callers see
pub view_put : {M : Type 0} (meter : M) (other : Colour) (period every : ℕ) (rows news : List PacketReport) (changed : Option PacketReport) (ready : Bool) (r : PacketReport) → news ≡ put report_cmp r rows
    → let view : LaneView M = record { meter = meter; other = other; period = period; k = every; rows = rows; changed = row_of changed rows; ready = ready } in
    record { meter = meter; other = other; period = period; k = every; rows = news; changed = Some (rank report_cmp (lower_of changed r) news); ready = false } ≡ lane_put view r
view_put {M} meter other period every rows news changed ready r is =
    let s = stays_put changed rows r in
    let same : rank report_cmp (lower_of changed r) news ≡ _ = ap (rank report_cmp (lower_of changed r)) is ∙ s.is in
    λ i. record { meter = meter; other = other; period = period; k = every; rows = is i; changed = Some (same i); ready = false }

pub view_less : {M : Type 0} (meter : M) (other : Colour) (period every : ℕ) (rows news : List PacketReport) (changed : Option PacketReport) (ready : Bool) (r : PacketReport) → news ≡ without report_cmp r rows → IsStrictlySortedBy report_cmp rows
    → let view : LaneView M = record { meter = meter; other = other; period = period; k = every; rows = rows; changed = row_of changed rows; ready = ready } in
    record { meter = meter; other = other; period = period; k = every; rows = news; changed = Some (rank report_cmp (lower_of changed r) news); ready = ready } ≡ lane_less view r
view_less {M} meter other period every rows news changed ready r is rises =
    let s = stays_less changed rows r rises in
    let same : rank report_cmp (lower_of changed r) news ≡ _ = ap (rank report_cmp (lower_of changed r)) is ∙ s.is in
    λ i. record { meter = meter; other = other; period = period; k = every; rows = is i; changed = Some (same i); ready = ready }
