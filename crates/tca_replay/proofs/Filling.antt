-- Lanes that get the settled reports of a log in order.
use Rattle.std.proofs.Common.{◌≡◌, ℕ, ◌+◌, ◌<◌, ◌≤◌, Bool, true, false, cond, List, [], ◌∷◌, ◌++◌, length, get_or, filter, Option, None, Some, zero, suc, refl, sym, ap, subst, ◌∙◌, arith}
use Rattle.std.specs.Prelude.{is_none, map}
use Rattle.std.specs.List.{AllByRecursion}
use Rattle.std.specs.List.Sorted.{IsStrictlySortedBy}
use Rattle.std.specs.Ordering.{is_lt}
use Rattle.std.specs.Cmp.{tied_itself}
use Rattle.std.specs.declared.cmp.Ordering.TheVariants.{Less}
use Rattle.std.proofs.lemmas.List.{append-nil, append_assoc, length-append}
use Rattle.std.proofs.lemmas.List.Elements.{filter-append}
use Rattle.tca_join.specs.Sets.{put, has}
use Rattle.tca_report.specs.report.Reports.{PacketReport, report_cmp}
use Rattle.tca_report.proofs.lemmas.report.Order.{report_total, report_exact}
use Rattle.tca_meters.specs.Termed.{TermedMeter}
use Rattle.tca_log.proofs.OrderedRows.Parts.{below_since, has_below, put_past, rises_front}
use Rattle.tca_accounts.specs.Plans.{AccountPlan, account_of}
use Rattle.tca_accounts.specs.Bills.{is_number}
use Rattle.tca_log.specs.Disputes.{undisputed, disputed}
use Rattle.tca_replay.specs.Lanes.{LaneView, lane_put, lane_ready, lane_resumed, least}
use Rattle.tca_log.specs.Rows.Ordered.{rank}
use Rattle.std.proofs.lemmas.List.Sums.{sum_by-cons}
use Rattle.tca_replay.specs.Books.{AllChanged, AreFilled, AreLanes, AreEmpty, changed_rows, fewest_steps, row_count, CanEnter, Fits, lanes_at, one_if}
use Rattle.tca_accounts.proofs.Bills.{filter_few}
use Rattle.tca_replay.proofs.Books.{lanes_part, length-lanes_at, lanes_kept, is_ready}
use Rattle.tca_log.proofs.Filters.{filter_put}
use Rattle.tca_replay.proofs.Loops.{all_at}

same_cond : {T : Type 0} (b : Bool) (y : T) → cond b y y ≡ y
same_cond true y = refl
same_cond false y = refl

put_none : (x : PacketReport) → put report_cmp x [] ≡ x ∷ []
unfolding put
put_none x = refl

-- a report above all of a list comes last
module _ (xs : List PacketReport) (x : PacketReport) (rest : List PacketReport) (rises : IsStrictlySortedBy report_cmp (xs ++ (x ∷ rest))) where
  below : AllByRecursion (λ y. report_cmp y x ≡ Less) xs
  below = below_since report_cmp report_total x x xs rest rises (ap is_lt (tied_itself report_total x))

  put_last : put report_cmp x xs ≡ xs ++ x ∷ []
  put_last = ap (put report_cmp x) (sym (append-nil xs)) ∙ put_past report_cmp report_total x xs [] below ∙ ap (λ (l : List PacketReport). xs ++ l) (put_none x)

  pub filter_last : (p : PacketReport → Bool) → cond (p x) (put report_cmp x (filter p xs)) (filter p xs) ≡ filter p (xs ++ x ∷ [])
  filter_last p = sym (filter_put report_cmp report_total report_exact p x xs (rises_front report_cmp report_total xs (x ∷ rest) rises)) ∙ ap (filter p) put_last

  all_filter : (p : PacketReport → Bool) (ys : List PacketReport) → AllByRecursion (λ y. report_cmp y x ≡ Less) ys → AllByRecursion (λ y. report_cmp y x ≡ Less) (filter p ys)
  all_filter p [] h = tt
  all_filter p (y ∷ ys) h = elim (p y) as (λ b. AllByRecursion (λ z. report_cmp z x ≡ Less) (cond b (y ∷ filter p ys) (filter p ys))) [
    | true ↦ (h.0, all_filter p ys h.1)
    | false ↦ all_filter p ys h.1
  ]

  pub not_yet : (p : PacketReport → Bool) → has report_cmp (filter p xs) x ≡ false
  not_yet p = has_below report_cmp report_total x (filter p xs) (all_filter p xs below)

  length-one : (p : PacketReport → Bool) → length (filter p (xs ++ x ∷ [])) ≡ length (filter p xs) + cond (p x) 1 0
  length-one p =
      ap length (filter-append p xs (x ∷ [])) ∙ length-append (filter p xs) (filter p (x ∷ []))
      ∙ elim (p x) as (λ b. length (filter p xs) + length (cond b (x ∷ []) []) ≡ length (filter p xs) + cond b 1 0) [ true ↦ refl | false ↦ refl ]

-- a report more is another row that changed
put_changed : (r : PacketReport) (changed : Option ℕ) (rows : List PacketReport) → AllChanged changed rows → least changed (rank report_cmp r rows) ≡ 0
unfolding rank
put_changed r None rows none = rw none refl
put_changed r (Some p) rows first = omega (arith, first)

same_pairs : (b : Bool) (r : PacketReport) (q : Option ℕ × List PacketReport) → AllChanged q.0 q.1 → (let t : Option ℕ × List PacketReport = cond b (Some (least q.0 (rank report_cmp r q.1)), put report_cmp r q.1) q in AllChanged t.0 t.1)
same_pairs true r q h = put_changed r q.0 q.1 h
same_pairs false r q h = h

module _ (plan : AccountPlan) (k : ℕ) (all : List PacketReport) where
  pub filled_none : (lanes : List (LaneView TermedMeter)) → AreLanes plan k lanes → AreEmpty lanes → AreFilled plan k all all 0 lanes
  filled_none lanes a e = record {
    sofar = [];
    split = refl;
    lanes_are = a;
    rows = λ n l h. (all_at (λ (x : LaneView TermedMeter). (x.rows ≡ []) × (x.changed ≡ None)) n lanes l e h).0;
    none = refl;
    changed = λ n l h.
        let none = all_at (λ (x : LaneView TermedMeter). (x.rows ≡ []) × (x.changed ≡ None)) n lanes l e h in
        rw (none.1) (none.0);
  }

  module _ (x : PacketReport) (rest : List PacketReport) (number : ℕ) (lanes : List (LaneView TermedMeter)) (f : AreFilled plan k all (x ∷ rest) number lanes) (rises : IsStrictlySortedBy report_cmp all) where
    abbrev ready_lanes : List (LaneView TermedMeter)
    ready_lanes = lanes_at lane_ready (account_of plan x) lanes

    whole : IsStrictlySortedBy report_cmp (f.sofar ++ (x ∷ rest))
    whole = subst (IsStrictlySortedBy report_cmp) (sym f.split) rises

    few : length f.sofar < length all
    few = omega (arith, ap length f.split, length-append f.sofar (x ∷ rest))

    pub still_lanes : AreLanes plan k ready_lanes
    still_lanes = lanes_kept plan k lane_ready (λ l. refl) (account_of plan x) lanes f.lanes_are

    rows_ready : (n : ℕ) (l : LaneView TermedMeter) → n < length ready_lanes → (get_or ready_lanes n l).rows ≡ filter (λ r. is_number n (account_of plan r)) f.sofar
    rows_ready n l h =
        let inside : n < length lanes = omega (arith, length-lanes_at lane_ready (account_of plan x) lanes) in
        lanes_part (λ l. l.rows) lane_ready (λ l. l) (λ l. refl) (account_of plan x) lanes n l inside ∙ same_cond (is_number n (account_of plan x)) _ ∙ f.rows n l inside

    pub can_enter : length all ≤ 4194304 → CanEnter plan ready_lanes x
    can_enter limit n l h own =
        let p : PacketReport → Bool = λ r. is_number n (account_of plan r) in
        record {
          ready_is = is_ready (record { plan = plan; k = k; lanes = lanes; reports = 0; disputed = 0; unassigned = 0 }) x n l h own;
          new = ap (λ ys. has report_cmp ys x) (rows_ready n l h) ∙ not_yet f.sofar x rest whole p;
          few = omega (arith, ap length (rows_ready n l h), filter_few p f.sofar, few);
        }

    pub number_few : number < length all
    number_few = omega (arith, f.none, filter_few (λ r. is_none (account_of plan r)) f.sofar, few)

    pub filled_more : AreFilled plan k all rest (number + one_if (is_none (account_of plan x))) (lanes_at (λ l. lane_put l x) (account_of plan x) ready_lanes)
    filled_more = record {
      sofar = f.sofar ++ x ∷ [];
      split = append_assoc f.sofar (x ∷ []) rest ∙ f.split;
      lanes_are = lanes_kept plan k (λ l. lane_put l x) (λ l. refl) (account_of plan x) ready_lanes still_lanes;
      rows = λ n l h.
          let inside : n < length ready_lanes = omega (arith, length-lanes_at (λ l. lane_put l x) (account_of plan x) ready_lanes) in
          lanes_part (λ l. l.rows) (λ l. lane_put l x) (put report_cmp x) (λ l. refl) (account_of plan x) ready_lanes n l inside
          ∙ ap (λ ys. cond (is_number n (account_of plan x)) (put report_cmp x ys) ys) (rows_ready n l inside)
          ∙ filter_last f.sofar x rest whole (λ r. is_number n (account_of plan r));
      none = omega (arith, f.none, length-one f.sofar x rest whole (λ r. is_none (account_of plan r)));
      changed = λ n l h.
          let part : LaneView TermedMeter → Option ℕ × List PacketReport = λ l. (l.changed, l.rows) in
          let inside : n < length ready_lanes = omega (arith, length-lanes_at (λ l. lane_put l x) (account_of plan x) ready_lanes) in
          let before : n < length lanes = omega (arith, length-lanes_at lane_ready (account_of plan x) lanes) in
          let still : part (get_or ready_lanes n l) ≡ part (get_or lanes n l) = lanes_part part lane_ready (λ q. q) (λ l. refl) (account_of plan x) lanes n l before ∙ same_cond (is_number n (account_of plan x)) _ in
          let next = lanes_part part (λ l. lane_put l x) (λ q. (Some (least q.0 (rank report_cmp x q.1)), put report_cmp x q.1)) (λ l. refl) (account_of plan x) ready_lanes n l inside in
          subst (λ (q : Option ℕ × List PacketReport). AllChanged q.0 q.1) (sym next) (same_pairs (is_number n (account_of plan x)) x (part (get_or ready_lanes n l)) (subst (λ (q : Option ℕ × List PacketReport). AllChanged q.0 q.1) (sym still) (f.changed n l before)));
    }

pub fits_filled : (plan : AccountPlan) (k : ℕ) (rs : List PacketReport) (number : ℕ) (lanes : List (LaneView TermedMeter)) → AreFilled plan k (undisputed rs) [] number lanes → Fits rs (record { plan = plan; k = k; lanes = lanes; reports = length rs; disputed = length (disputed rs); unassigned = number })
fits_filled plan k rs number lanes f =
    let done : f.sofar ≡ undisputed rs = sym (append-nil f.sofar) ∙ f.split in
    record {
      reports = refl;
      disputed_is = refl;
      unassigned_is = f.none ∙ ap (λ xs. length (filter (λ r. is_none (account_of plan r)) xs)) done;
      rows = λ n l h. f.rows n l h ∙ ap (filter (λ r. is_number n (account_of plan r))) done;
    }

changed_all : (o : Option ℕ) (rows : List PacketReport) (l : LaneView TermedMeter) → l.rows ≡ rows → AllChanged o rows → changed_rows l o ≡ length rows
changed_all None rows l is none = rw none refl
changed_all (Some p) rows l is first = omega (arith, first, ap length is)

-- where all rows changed, all are metered
pub row_counts : (lanes : List (LaneView TermedMeter)) → ((n : ℕ) (l : LaneView TermedMeter) → n < length lanes → AllChanged (get_or lanes n l).changed (get_or lanes n l).rows) → row_count (map lane_resumed lanes) ≡ fewest_steps lanes
row_counts [] h = refl
row_counts (l ∷ lanes) h =
    omega (arith, row_counts lanes (λ n d i. h (suc n) d (omega arith)), changed_all l.changed l.rows l refl (h zero l (omega arith)), sum_by-cons (λ (x : LaneView TermedMeter). changed_rows x x.changed) l lanes, sum_by-cons (λ (x : LaneView TermedMeter). length x.rows) (lane_resumed l) (map lane_resumed lanes))
