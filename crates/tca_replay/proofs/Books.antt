-- Books as reports come.
use Rattle.std.proofs.Common.{◌≡◌, ℕ, zero, suc, ◌+◌, ◌-◌, ◌<◌, ◌≤◌, Bool, true, false, cond, List, [], ◌∷◌, length, get_or, set, Option, Some, None, refl, sym, ap, subst, ◌∙◌, arith, inl, inr}
use Rattle.std.specs.Prelude.{map, is_none, nat_lt, Result, Ok, Err, OnOk, OnErr}
use Rattle.std.specs.List.Sorted.{IsStrictlySortedBy}
use Rattle.std.proofs.lemmas.Bool.{cases_eq, eq-eqb, ne_eqb}
use Rattle.std.proofs.lemmas.List.{get_or-map, length-map}
use Rattle.tca_join.specs.Sets.{put, has, in_order, by_order}
use Rattle.tca_report.specs.report.Reports.{PacketReport, report_cmp}
use Rattle.tca_report.specs.report.Identities.{identity_of, identity_cmp}
use Rattle.tca_meters.specs.Termed.{TermedMeter}
use Rattle.std.specs.declared.cmp.Ordering.TheVariants.{Less, Equal, Greater}
use Rattle.tca_report.specs.declared.report.Identity.{Identity}
use Rattle.tca_log.specs.Rows.Ordered.{without}
use Rattle.tca_log.specs.Disputes.{added, undisputed, disputed, contents}
use Rattle.tca_log.specs.declared.answer.Added.{Added}
use Rattle.tca_log.specs.declared.answer.Added.TheVariants.{Fresh, Repeat, NewDispute, MoreDispute}
use Rattle.tca_log.proofs.Undisputed.{undisputed_few}
use Rattle.tca_accounts.specs.Plans.{AccountPlan, account_of}
use Rattle.tca_accounts.proofs.Bills.{filter_few}
use Rattle.tca_accounts.specs.Bills.{is_number, reports_of, unassigned}
use Rattle.tca_replay.specs.Lanes.{LaneView, lane_put, lane_less, lane_ready, lane_resumed}
use Rattle.tca_log.specs.Next.{kept_after, count_after, reports_after, disputed_after}
use Rattle.tca_replay.specs.Books.{BookView, Fits, Takes, IsReady, AreLanes, CanEnter, CanLeave, CanPut, changed_at, lanes_at, lanes_after, book_after, book_ready, book_settled, one_if, terms_of}
use Rattle.tca_log.proofs.Next.{reports_next, disputed_next, kept_next, count_next, fresh_is_new, withdrawn_is_there}

module _ {A : Type 0} (f : A → A) where
  pub set_changed : (n : ℕ) (xs : List A) (d y : A) → n < length xs → y ≡ f (get_or xs n d) → set xs n y ≡ changed_at f n xs
  set_changed n [] d y h e = absurd (omega arith)
  set_changed zero (x ∷ xs) d y h e = ap (λ (z : A). z ∷ xs) e
  set_changed (suc n) (x ∷ xs) d y h e = ap (λ (l : List A). x ∷ l) (set_changed n xs d y (omega arith) e)

  pub length-changed_at : (n : ℕ) (xs : List A) → length (changed_at f n xs) ≡ length xs
  length-changed_at n [] = refl
  length-changed_at zero (x ∷ xs) = refl
  length-changed_at (suc n) (x ∷ xs) = ap suc (length-changed_at n xs)

  pub get_changed : (n : ℕ) (xs : List A) (d : A) → n < length xs → get_or (changed_at f n xs) n d ≡ f (get_or xs n d)
  get_changed n [] d h = absurd (omega arith)
  get_changed zero (x ∷ xs) d h = refl
  get_changed (suc n) (x ∷ xs) d h = get_changed n xs d (omega arith)

  pub get_unchanged : (n k : ℕ) (xs : List A) (d : A) → (k ≡ n → ⊥) → get_or (changed_at f n xs) k d ≡ get_or xs k d
  get_unchanged n k [] d h = refl
  get_unchanged zero zero (x ∷ xs) d h = absurd (h refl)
  get_unchanged zero (suc k) (x ∷ xs) d h = refl
  get_unchanged (suc n) zero (x ∷ xs) d h = refl
  get_unchanged (suc n) (suc k) (x ∷ xs) d h = get_unchanged n k xs d (λ e. h (ap suc e))

-- a part of the lanes, of which the changed one has another
pub lanes_part : {T : Type 0} (part : LaneView TermedMeter → T) (f : LaneView TermedMeter → LaneView TermedMeter) (g : T → T) → ((l : LaneView TermedMeter) → part (f l) ≡ g (part l)) → (o : Option ℕ) (lanes : List (LaneView TermedMeter)) (n : ℕ) (d : LaneView TermedMeter) → n < length lanes
    → part (get_or (lanes_at f o lanes) n d) ≡ cond (is_number n o) (g (part (get_or lanes n d))) (part (get_or lanes n d))
lanes_part part f g e None lanes n d h = refl
lanes_part part f g e (Some m) lanes n d h = elim (cases_eq m n) [
  | inl same ↦ rw (eq-eqb m n same) (rw same (ap part (get_changed f n lanes d h) ∙ e (get_or lanes n d)))
  | inr apart ↦ rw (ne_eqb m n apart) (ap part (get_unchanged f m n lanes d (λ e. apart (sym e))))
]

pub length-lanes_at : (f : LaneView TermedMeter → LaneView TermedMeter) (o : Option ℕ) (lanes : List (LaneView TermedMeter)) → length (lanes_at f o lanes) ≡ length lanes
length-lanes_at f None lanes = refl
length-lanes_at f (Some n) lanes = length-changed_at f n lanes

same_cond : {T : Type 0} (b : Bool) (x : T) → cond b x x ≡ x
same_cond true x = refl
same_cond false x = refl

-- a member changed twice
pub changed_twice : {A : Type 0} (f g : A → A) (n : ℕ) (xs : List A) → changed_at g n (changed_at f n xs) ≡ changed_at (λ x. g (f x)) n xs
changed_twice f g n [] = refl
changed_twice f g zero (x ∷ xs) = refl
changed_twice f g (suc n) (x ∷ xs) = ap (λ l. x ∷ l) (changed_twice f g n xs)

-- the lane of a report's account, once it has room, can take the report
pub lane_free : (plan : AccountPlan) (r : PacketReport) (lanes : List (LaneView TermedMeter)) (n : ℕ) (d old : LaneView TermedMeter) → CanEnter plan (lanes_at lane_ready (account_of plan r) lanes) r → account_of plan r ≡ Some n → n < length lanes → old ≡ get_or lanes n d
    → CanPut (lane_ready old) r
lane_free plan r lanes n d old free own h e =
    let there : CanPut (get_or (lanes_at lane_ready (account_of plan r) lanes) n d) r = free n d (omega (arith, length-lanes_at lane_ready (account_of plan r) lanes)) own in
    subst (λ l. CanPut l r) (ap (λ o. get_or (lanes_at lane_ready o lanes) n d) own ∙ get_changed lane_ready n lanes d h ∙ ap lane_ready (sym e)) there

-- lanes keep their accounts
pub lanes_kept : (plan : AccountPlan) (k : ℕ) (f : LaneView TermedMeter → LaneView TermedMeter) → ((l : LaneView TermedMeter) → terms_of (f l) ≡ terms_of l) → (o : Option ℕ) (lanes : List (LaneView TermedMeter)) → AreLanes plan k lanes → AreLanes plan k (lanes_at f o lanes)
lanes_kept plan k f terms o lanes a = record {
  count = length-lanes_at f o lanes ∙ a.count;
  each = λ n p l h.
      let inside : n < length lanes = omega (arith, a.count) in
      lanes_part terms_of f (λ x. x) terms o lanes n l inside ∙ same_cond (is_number n o) _ ∙ a.each n p l h;
}

pub lanes_resumed : (plan : AccountPlan) (k : ℕ) (lanes : List (LaneView TermedMeter)) → AreLanes plan k lanes → AreLanes plan k (map lane_resumed lanes)
lanes_resumed plan k lanes a = record {
  count = length-map lanes lane_resumed ∙ a.count;
  each = λ n p l h.
      let inside : n < length lanes = omega (arith, a.count) in
      ap terms_of (get_or-map lane_resumed lanes n l l inside) ∙ a.each n p l h;
}

module _ (b : BookView) (rs : List PacketReport) (fits : Fits rs b) where
  pub fits_ready : (r : PacketReport) → Fits rs (book_ready b r)
  fits_ready r = record {
    reports = fits.reports;
    disputed_is = fits.disputed_is;
    unassigned_is = fits.unassigned_is;
    rows = λ n l h.
        let inside : n < length b.lanes = omega (arith, length-lanes_at lane_ready (account_of b.plan r) b.lanes) in
        lanes_part (λ x. x.rows) lane_ready (λ x. x) (λ x. refl) (account_of b.plan r) b.lanes n l inside ∙ same_cond (is_number n (account_of b.plan r)) _ ∙ fits.rows n l inside;
  }

  pub fits_settled : Fits rs (book_settled b)
  fits_settled = record {
    reports = fits.reports;
    disputed_is = fits.disputed_is;
    unassigned_is = fits.unassigned_is;
    rows = λ n l h.
        let inside : n < length b.lanes = omega (arith, length-map b.lanes lane_resumed) in
        ap (λ x. x.rows) (get_or-map lane_resumed b.lanes n l l inside) ∙ fits.rows n l inside;
  }

  rows_after : (a : Added) (r : PacketReport) (n : ℕ) (l : LaneView TermedMeter) → n < length (lanes_after b.plan a r b.lanes) → (get_or (lanes_after b.plan a r b.lanes) n l).rows ≡ kept_after (λ q. is_number n (account_of b.plan q)) a r (reports_of b.plan n rs)
  rows_after Fresh r n l h =
      let inside : n < length b.lanes = omega (arith, length-lanes_at (λ x. lane_put x r) (account_of b.plan r) b.lanes) in
      lanes_part (λ x. x.rows) (λ x. lane_put x r) (put report_cmp r) (λ x. refl) (account_of b.plan r) b.lanes n l inside
      ∙ ap (λ xs. cond (is_number n (account_of b.plan r)) (put report_cmp r xs) xs) (fits.rows n l inside)
  rows_after Repeat r n l h = fits.rows n l h
  rows_after (NewDispute q) r n l h =
      let inside : n < length b.lanes = omega (arith, length-lanes_at (λ x. lane_less x q) (account_of b.plan q) b.lanes) in
      lanes_part (λ x. x.rows) (λ x. lane_less x q) (without report_cmp q) (λ x. refl) (account_of b.plan q) b.lanes n l inside
      ∙ ap (λ xs. cond (is_number n (account_of b.plan q)) (without report_cmp q xs) xs) (fits.rows n l inside)
  rows_after MoreDispute r n l h = fits.rows n l h

  -- the law of one more report
  pub fits_after : (r : PacketReport) (a : Added) → IsStrictlySortedBy report_cmp rs → a ≡ added rs r → Fits (put report_cmp r rs) (book_after b r a)
  fits_after r a s e = record {
    reports = ap (reports_after a) fits.reports ∙ ap (λ x. reports_after x (length rs)) e ∙ sym (reports_next rs r s);
    disputed_is = ap (disputed_after a) fits.disputed_is ∙ ap (λ x. disputed_after x (length (disputed rs))) e ∙ sym (disputed_next rs r s);
    unassigned_is =
        ap (count_after (λ q. is_none (account_of b.plan q)) a r) fits.unassigned_is
        ∙ ap (λ x. count_after (λ q. is_none (account_of b.plan q)) x r (length (unassigned b.plan rs))) e
        ∙ sym (count_next (λ q. is_none (account_of b.plan q)) rs r s);
    rows = λ n l h.
        rows_after a r n l h
        ∙ ap (λ x. kept_after (λ q. is_number n (account_of b.plan q)) x r (reports_of b.plan n rs)) e
        ∙ sym (kept_next (λ q. is_number n (account_of b.plan q)) rs r s);
  }

pub is_ready : (b : BookView) (r : PacketReport) → IsReady (book_ready b r) r
is_ready b r n l h e =
    let inside : n < length b.lanes = omega (arith, length-lanes_at lane_ready (account_of b.plan r) b.lanes) in
    lanes_part (λ x. x.ready) lane_ready (λ x. true) (λ x. refl) (account_of b.plan r) b.lanes n l inside
    ∙ ap (λ o. cond (is_number n o) true (get_or b.lanes n l).ready) e
    ∙ ap (λ t. cond t true (get_or b.lanes n l).ready) (eq-eqb n n refl)

some_there : (xs : List PacketReport) (q : PacketReport) → has report_cmp xs q ≡ true → 0 < length xs
unfolding has
some_there [] q h = absurd cc
some_there (x ∷ xs) q h = omega arith

put_short : (k : Identity) (xs : List Identity) → length (put identity_cmp k xs) ≤ suc (length xs)
unfolding put
put_short k [] = omega arith
put_short k (x ∷ xs) = elim (identity_cmp k x) as (λ o. length (by_order o (k ∷ x ∷ xs) (x ∷ xs) (x ∷ put identity_cmp k xs)) ≤ suc (length (x ∷ xs))) [
  | Less ↦ omega arith
  | Equal ↦ omega arith
  | Greater ↦ omega (arith, put_short k xs)
]

order_short : (xs : List Identity) → length (in_order identity_cmp xs) ≤ length xs
unfolding in_order
order_short [] = omega arith
order_short (x ∷ xs) = omega (arith, order_short xs, put_short x (in_order identity_cmp xs))

disputed_short : (xs : List PacketReport) → length (disputed xs) ≤ length xs
unfolding disputed
disputed_short xs = omega (arith, filter_few (λ i. nat_lt 1 (length (contents xs i))) (in_order identity_cmp (map identity_of xs)), order_short (map identity_of xs), length-map xs identity_of)

-- what holds where a report is taken
module _ (b : BookView) (r : PacketReport) (a : Added) (t : Takes b r a) where
  pub reports_few : b.reports ≤ length (put report_cmp r t.set)
  reports_few = omega (arith, t.fits.reports, longer (added t.set r) (reports_next t.set r t.rises))
    where
      longer : (x : Added) → length (put report_cmp r t.set) ≡ reports_after x (length t.set) → length t.set ≤ length (put report_cmp r t.set)
      longer Fresh e = omega arith
      longer Repeat e = omega arith
      longer (NewDispute q) e = omega arith
      longer MoreDispute e = omega arith

  pub unassigned_few : b.unassigned ≤ b.reports
  unassigned_few = omega (arith, t.fits.unassigned_is, t.fits.reports, filter_few (λ q. is_none (account_of b.plan q)) (undisputed t.set), undisputed_few t.set)

  lane_few : (n : ℕ) (l : LaneView TermedMeter) → n < length b.lanes → length (get_or b.lanes n l).rows ≤ b.reports
  lane_few n l h = omega (arith, ap length (t.fits.rows n l h), t.fits.reports, filter_few (λ q. is_number n (account_of b.plan q)) (undisputed t.set), undisputed_few t.set)

  fewer : a ≡ Fresh → length t.set < 4194304
  fewer e = omega (arith, t.few, reports_next t.set r t.rises ∙ ap (λ x. reports_after x (length t.set)) (sym t.answer ∙ e))

  pub can_enter : a ≡ Fresh → IsReady b r → CanEnter b.plan b.lanes r
  can_enter e ready n l h own = record {
    ready_is = ready n l h own;
    new = ap (λ xs. has report_cmp xs r) (t.fits.rows n l h) ∙ fresh_is_new (λ q. is_number n (account_of b.plan q)) t.set r (sym t.answer ∙ e);
    few = omega (arith, lane_few n l h, t.fits.reports, fewer e);
  }

  pub can_leave : (q : PacketReport) → a ≡ NewDispute q → CanLeave b.plan b.lanes q
  can_leave q e n l h own =
      ap (λ xs. has report_cmp xs q) (t.fits.rows n l h)
      ∙ withdrawn_is_there (λ x. is_number n (account_of b.plan x)) t.set r q (sym t.answer ∙ e) (ap (is_number n) own ∙ eq-eqb n n refl)

  pub was_unassigned : (q : PacketReport) → a ≡ NewDispute q → one_if (is_none (account_of b.plan q)) ≤ b.unassigned
  was_unassigned q e =
      elim (is_none (account_of b.plan q)) as (λ c. is_none (account_of b.plan q) ≡ c → one_if c ≤ b.unassigned) [
        | true ↦ λ none. omega (arith, t.fits.unassigned_is, some_there (unassigned b.plan t.set) q (withdrawn_is_there (λ x. is_none (account_of b.plan x)) t.set r q (sym t.answer ∙ e) none))
        | false ↦ λ some. omega arith
      ] refl

  -- fewer identities are disputed than there are reports
  pub disputed_few : (q : PacketReport) → a ≡ NewDispute q → b.disputed + 1 ≤ length (put report_cmp r t.set)
  disputed_few q e = omega (arith, t.fits.disputed_is, disputed_next t.set r t.rises ∙ ap (λ x. disputed_after x (length (disputed t.set))) (sym t.answer ∙ e), disputed_short (put report_cmp r t.set))

pub on_ok : {T E : Type 0} {P Q : Type 0} (r : Result T E) → (P → Q) → OnOk r P → OnOk r Q
on_ok (Ok x) f h = f h
on_ok (Err e) f h = h

pub room_either : {T E : Type 0} {A : Type 0} {new old ready : A} (r : Result T E) (P : A → Type 0) → OnOk r (new ≡ ready) → OnErr r (new ≡ old) → P ready → P old → P new
room_either (Ok x) P ok err p q = subst P (sym ok) p
room_either (Err e) P ok err p q = subst P (sym err) q

pub few_one : (b : Bool) → one_if b ≤ 1
few_one true = omega arith
few_one false = omega arith

-- the reports without an account, with one more or one less
pub one_more_if : (b : Bool) (n m : ℕ) → m ≡ one_if b → n + m ≡ cond b (n + 1) n
one_more_if true n m e = omega arith
one_more_if false n m e = omega arith

pub one_less_if : (b : Bool) (n m : ℕ) → m ≡ one_if b → n - m ≡ cond b (n - 1) n
one_less_if true n m e = rw e refl
one_less_if false n m e = rw e (omega arith)
