-- The sum of two statements is a statement.
use Rattle.std.proofs.Common.{◌≡◌, inl, inr, ◌<◌, ◌+◌, ◌++◌, ◌∷◌, [], ℕ, suc, zero, List, Result, Ok, Err, length, arith, subst, sym, ap, refl, ◌∙◌, ◌^◌}
use Rattle.std.specs.Prelude.{IfOk, map}
use Rattle.std.specs.List.{AllByRecursion, IsDistinct}
use Rattle.std.specs.Str.{bytes_eq}
use Rattle.std.specs.List.Sorted.{IsStrictlySortedBy}
use Rattle.std.specs.Ordering.{nat_cmp}
use Rattle.std.proofs.lemmas.Bool.{cases_lt}
use Rattle.std.proofs.lemmas.Cmp.{nat_cmp_total}
use Rattle.std.proofs.lemmas.List.{nil_from_length}
use Rattle.std.proofs.lemmas.List.Sums.{sum_by-cons}
use Rattle.tca_figures.specs.Figures.{AllFit64, AreFigures, Ascend, Fits64, IsAccount, IsFigure, IsSpan, IsStatement, Stated, StatedAccount, all_of, figure_plus, plus}
use Rattle.tca_join.specs.Sets.{in_order}
use Rattle.tca_figures.specs.Sums.{AllFit, AreAlike, AreInOrder, Fits, FitsAccount, added, added_account, added_accounts, added_spans, indexes, names, sums_at}
use Rattle.tca_figures.specs.declared.figures.ColourFigures.{ColourFigures}
use Rattle.tca_figures.specs.declared.figures.Figure.{Figure}
use Rattle.tca_figures.specs.declared.figures.SpanFigures.{SpanFigures}
use Rattle.tca_figures.proofs.Firsts.{equal_sum, first_greater, first_left, first_less, first_right, nothing_added, others}
use Rattle.tca_figures.proofs.Others.{names_length}
use Rattle.tca_join.proofs.Sets.{rises_in_order}

abbrev both_of : SpanFigures → SpanFigures → SpanFigures
both_of x y = record { index = x.index; sums = plus x.sums y.sums }

-- what holds of a sum by its first period
module _ (P : List SpanFigures → List SpanFigures → List SpanFigures → Type 0) (nil : P [] [] [])
    (left : (x : SpanFigures) (as_ bs cs : List SpanFigures) → P as_ bs cs → P (x ∷ as_) bs (x ∷ cs))
    (right : (as_ : List SpanFigures) (y : SpanFigures) (bs cs : List SpanFigures) → P as_ bs cs → P as_ (y ∷ bs) (y ∷ cs))
    (both : (x : SpanFigures) (as_ : List SpanFigures) (y : SpanFigures) (bs cs : List SpanFigures) → P as_ bs cs → P (x ∷ as_) (y ∷ bs) (both_of x y ∷ cs)) where
  up_to : (n : ℕ) (as_ bs : List SpanFigures) → length as_ + length bs < n → AreInOrder as_ → AreInOrder bs → P as_ bs (added_spans as_ bs)
  up_to zero as_ bs l h g = absurd (omega (arith, l))
  up_to (suc n) [] [] l h g = subst (P [] []) (sym nothing_added) nil
  up_to (suc n) [] (y ∷ bs) l h g =
      subst (P [] (y ∷ bs)) (sym (first_right y bs g).sum) (right [] y bs (added_spans [] bs) (up_to n [] bs (omega (arith, l)) h (others y bs g)))
  up_to (suc n) (x ∷ as_) [] l h g =
      subst (P (x ∷ as_) []) (sym (first_left x as_ h).sum) (left x as_ [] (added_spans as_ []) (up_to n as_ [] (omega (arith, l)) (others x as_ h) g))
  up_to (suc n) (x ∷ as_) (y ∷ bs) l h g = elim (cases_lt x.index y.index) [
    | inl less ↦ subst (P (x ∷ as_) (y ∷ bs)) (sym (first_less x as_ y bs h g less).sum)
        (left x as_ (y ∷ bs) (added_spans as_ (y ∷ bs)) (up_to n as_ (y ∷ bs) (omega (arith, l)) (others x as_ h) g))
    | inr most ↦ elim (cases_lt y.index x.index) [
      | inl greater ↦ subst (P (x ∷ as_) (y ∷ bs)) (sym (first_greater x as_ y bs h g greater).sum)
          (right (x ∷ as_) y bs (added_spans (x ∷ as_) bs) (up_to n (x ∷ as_) bs (omega (arith, l)) h (others y bs g)))
      | inr least ↦ subst (P (x ∷ as_) (y ∷ bs)) (sym (equal_sum x as_ y bs h g (omega (arith, most, least))))
          (both x as_ y bs (added_spans as_ bs) (up_to n as_ bs (omega (arith, l)) (others x as_ h) (others y bs g)))
    ]
  ]

  pub by_first : (as_ bs : List SpanFigures) → AreInOrder as_ → AreInOrder bs → P as_ bs (added_spans as_ bs)
  by_first as_ bs h g = up_to (suc (length as_ + length bs)) as_ bs (omega arith) h g

figure_sum : (a b : Figure) → IsFigure a → IsFigure b → Fits64 (figure_plus a b) → IsFigure (figure_plus a b)
figure_sum a b h g f = record {
  octets = f.0;
  packets = f.1;
  both = (
    λ e. let one = h.both.0 (omega (arith, e)) in let two = g.both.0 (omega (arith, e)) in omega (arith, one, two),
    λ e. let one = h.both.1 (omega (arith, e)) in let two = g.both.1 (omega (arith, e)) in omega (arith, one, two),
  );
}

figures_sum : (a b : ColourFigures) → AreFigures a → AreFigures b → AllFit64 (plus a b) → AreFigures (plus a b)
figures_sum a b h g f = record {
  green = figure_sum a.green b.green h.green g.green f.0;
  yellow = figure_sum a.yellow b.yellow h.yellow g.yellow f.1;
  red = figure_sum a.red b.red h.red g.red f.2;
}

span_sum : (period : ℕ) (x y : SpanFigures) → IsSpan period x → IsSpan period y → AllFit64 (plus x.sums y.sums) → IsSpan period (both_of x y)
span_sum period x y h g f = record {
  small = h.small;
  begins = h.begins;
  sums = figures_sum x.sums y.sums h.sums g.sums f;
  some = let n = h.some in omega (arith, n);
}

spans_sum : (period : ℕ) (as_ bs : List SpanFigures) → AreInOrder as_ → AreInOrder bs → AllByRecursion (IsSpan period) as_ → AllByRecursion (IsSpan period) bs
    → AllFit (added_spans as_ bs) → AllByRecursion (IsSpan period) (added_spans as_ bs)
spans_sum period = by_first (λ as_ bs cs. AllByRecursion (IsSpan period) as_ → AllByRecursion (IsSpan period) bs → AllFit cs → AllByRecursion (IsSpan period) cs)
    (λ h g f. tt)
    (λ x as_ bs cs p h g f. (h.0, p h.1 g f.1))
    (λ as_ y bs cs p h g f. (g.0, p h g.1 f.1))
    (λ x as_ y bs cs p h g f. (span_sum period x y h.0 g.0 f.0, p h.1 g.1 f.1))

move_left : (x c d : ColourFigures) → plus (plus x c) d ≡ plus x (plus c d)
move_left x c d =
    let e : (a b c : ℕ) → (a + b) + c ≡ a + (b + c) = λ a b c. omega arith in
    rw (
      e x.green.octets c.green.octets d.green.octets,
      e x.green.packets c.green.packets d.green.packets,
      e x.yellow.octets c.yellow.octets d.yellow.octets,
      e x.yellow.packets c.yellow.packets d.yellow.packets,
      e x.red.octets c.red.octets d.red.octets,
      e x.red.packets c.red.packets d.red.packets,
    ) refl

swap : (c d : ColourFigures) → plus c d ≡ plus d c
swap c d =
    let e : (a b : ℕ) → a + b ≡ b + a = λ a b. omega arith in
    (λ i. record {
      green = record { octets = e c.green.octets d.green.octets i; packets = e c.green.packets d.green.packets i };
      yellow = record { octets = e c.yellow.octets d.yellow.octets i; packets = e c.yellow.packets d.yellow.packets i };
      red = record { octets = e c.red.octets d.red.octets i; packets = e c.red.packets d.red.packets i };
    })

move_right : (c y d : ColourFigures) → plus c (plus y d) ≡ plus y (plus c d)
move_right c y d = sym (move_left c y d) ∙ (ap (λ z. plus z d) (swap c y) ∙ move_left y c d)

pub all_cons : (x : SpanFigures) (spans : List SpanFigures) → all_of (x ∷ spans) ≡ plus x.sums (all_of spans)
all_cons x spans i = record {
  green = record { octets = sum_by-cons (λ s. s.sums.green.octets) x spans i; packets = sum_by-cons (λ s. s.sums.green.packets) x spans i };
  yellow = record { octets = sum_by-cons (λ s. s.sums.yellow.octets) x spans i; packets = sum_by-cons (λ s. s.sums.yellow.packets) x spans i };
  red = record { octets = sum_by-cons (λ s. s.sums.red.octets) x spans i; packets = sum_by-cons (λ s. s.sums.red.packets) x spans i };
}

-- the sum of all periods of both is that of all periods of the sum
all_sum : (as_ bs : List SpanFigures) → AreInOrder as_ → AreInOrder bs → plus (all_of as_) (all_of bs) ≡ all_of (added_spans as_ bs)
all_sum = by_first (λ as_ bs cs. plus (all_of as_) (all_of bs) ≡ all_of cs)
    refl
    (λ x as_ bs cs p. ap (λ z. plus z (all_of bs)) (all_cons x as_) ∙ (move_left x.sums (all_of as_) (all_of bs) ∙ (ap (plus x.sums) p ∙ sym (all_cons x cs))))
    (λ as_ y bs cs p. ap (plus (all_of as_)) (all_cons y bs) ∙ (move_right (all_of as_) y.sums (all_of bs) ∙ (ap (plus y.sums) p ∙ sym (all_cons y cs))))
    (λ x as_ y bs cs p. ap (λ z. plus z (all_of (y ∷ bs))) (all_cons x as_) ∙ (ap (plus (plus x.sums (all_of as_))) (all_cons y bs)
    ∙ (move_left x.sums (all_of as_) (plus y.sums (all_of bs))
    ∙ (ap (plus x.sums) (move_right (all_of as_) y.sums (all_of bs) ∙ ap (plus y.sums) p)
    ∙ (sym (move_left x.sums y.sums (all_of cs)) ∙ sym (all_cons (both_of x y) cs))))))

index_of_each : (f : ℕ → ColourFigures) (ks : List ℕ) → indexes (map (λ k. record { index = k; sums = f k }) ks) ≡ ks
index_of_each f [] = refl
index_of_each f (k ∷ ks) = ap (λ z. k ∷ z) (index_of_each f ks)

ascend_sum : (as_ bs : List SpanFigures) → Ascend (added_spans as_ bs)
ascend_sum as_ bs = subst (IsStrictlySortedBy nat_cmp) (sym (index_of_each (λ k. plus (sums_at as_ k) (sums_at bs k)) (in_order nat_cmp (indexes as_ ++ indexes bs))))
    (rises_in_order nat_cmp nat_cmp_total (indexes as_ ++ indexes bs))

figures_fit : (c : ColourFigures) → AreFigures c → AllFit64 c
figures_fit c h = ((h.green.octets, h.green.packets), (h.yellow.octets, h.yellow.packets), (h.red.octets, h.red.packets))

spans_fit : (period : ℕ) (spans : List SpanFigures) → AllByRecursion (IsSpan period) spans → AllFit spans
spans_fit period [] h = tt
spans_fit period (x ∷ spans) h = (figures_fit x.sums h.0.sums, spans_fit period spans h.1)

in_order_of : (period : ℕ) (a : StatedAccount) → IsAccount period a → AreInOrder a.spans
in_order_of period a h = (h.ascend, spans_fit period a.spans h.spans)

pub all_in_order : (period : ℕ) (accounts : List StatedAccount) → AllByRecursion (IsAccount period) accounts → AllByRecursion (λ a. AreInOrder a.spans) accounts
all_in_order period [] h = tt
all_in_order period (a ∷ accounts) h = (in_order_of period a h.0, all_in_order period accounts h.1)

pub account_sum : (period : ℕ) (a b : StatedAccount) → IsAccount period a → IsAccount period b → FitsAccount (added_account a b) → IsAccount period (added_account a b)
account_sum period a b h g f =
    let one = in_order_of period a h in
    let two = in_order_of period b g in
    record {
      name = h.name;
      total = figures_sum a.total b.total h.total g.total f.0;
      spans = spans_sum period a.spans b.spans one two h.spans g.spans f.1;
      ascend = ascend_sum a.spans b.spans;
      summed = ap (λ z. plus z b.total) h.summed ∙ (ap (plus (all_of a.spans)) g.summed ∙ all_sum a.spans b.spans one two);
    }

pub names_behind : (a b : StatedAccount) (as_ bs : List StatedAccount) → names (a ∷ as_) ≡ names (b ∷ bs) → names as_ ≡ names bs
names_behind a b as_ bs e = cc

accounts_sum : (period : ℕ) (as_ bs : List StatedAccount) → names as_ ≡ names bs → AllByRecursion (IsAccount period) as_ → AllByRecursion (IsAccount period) bs
    → AllByRecursion FitsAccount (added_accounts as_ bs) → AllByRecursion (IsAccount period) (added_accounts as_ bs)
unfolding added_accounts
accounts_sum period [] bs e h g f = g
accounts_sum period (a ∷ as_) [] e h g f = h
accounts_sum period (a ∷ as_) (b ∷ bs) e h g f = (account_sum period a b h.0 g.0 f.0, accounts_sum period as_ bs (names_behind a b as_ bs e) h.1 g.1 f.1)

names_sum : (as_ bs : List StatedAccount) → names as_ ≡ names bs → names (added_accounts as_ bs) ≡ names as_
unfolding added_accounts
names_sum [] bs e = sym e
names_sum (a ∷ as_) [] e = refl
names_sum (a ∷ as_) (b ∷ bs) e = ap (λ z. a.name ∷ z) (names_sum as_ bs (names_behind a b as_ bs e))

pub statement_sum : (a b : Stated) → IsStatement a → IsStatement b → AreAlike a b → Fits (added a b) → IsStatement (added a b)
statement_sum a b h g alike f =
    let same = names_sum a.accounts b.accounts alike.1 in
    let count : length (added a b).accounts ≡ length a.accounts = sym (names_length (added a b).accounts) ∙ (ap length same ∙ names_length a.accounts) in
    record {
      some_period = h.some_period;
      period = h.period;
      reports = f.reports;
      disputed = f.disputed;
      unassigned = f.unassigned;
      some = omega (arith, count, h.some);
      few = omega (arith, count, h.few);
      accounts = accounts_sum a.period a.accounts b.accounts alike.1 h.accounts (subst (λ p. AllByRecursion (IsAccount p) b.accounts) (sym alike.0) g.accounts) f.accounts;
      apart = subst (IsDistinct bytes_eq) (sym same) h.apart;
    }

pub added_step : (left right : List StatedAccount) (a : StatedAccount) (as_ : List StatedAccount) (b : StatedAccount) (bs : List StatedAccount) → left ≡ a ∷ as_ → right ≡ b ∷ bs
    → added_accounts left right ≡ added_account a b ∷ added_accounts as_ bs
unfolding added_accounts
added_step left right a as_ b bs el er = rw (el, er) refl

-- nothing is left of either
pub added_none : (left right : List StatedAccount) → length left ≡ 0 → names left ≡ names right → added_accounts left right ≡ []
unfolding added_accounts
added_none left right n e =
    let one = nil_from_length left n in
    let two : right ≡ [] = nil_from_length right (sym (names_length right) ∙ (ap length (sym e) ∙ (names_length left ∙ n))) in
    rw (one, two) refl

-- the parts of a sum
pub is_sum : (a b : Stated) (reports disputed unassigned : ℕ) (accounts : List StatedAccount) → IsStatement a → IsStatement b → AreAlike a b
    → reports ≡ a.reports + b.reports → disputed ≡ a.disputed + b.disputed → unassigned ≡ a.unassigned + b.unassigned → accounts ≡ added_accounts a.accounts b.accounts
    → reports < 2 ^ 64 → disputed < 2 ^ 64 → unassigned < 2 ^ 64 → AllByRecursion FitsAccount accounts
    → IsStatement (record { period = a.period; reports = reports; disputed = disputed; unassigned = unassigned; accounts = accounts })
is_sum a b reports disputed unassigned accounts h g alike er ed eu ea fr fd fu fa =
    let e : record { period = a.period; reports = reports; disputed = disputed; unassigned = unassigned; accounts = accounts } ≡ added a b =
    λ i. record { period = a.period; reports = er i; disputed = ed i; unassigned = eu i; accounts = ea i } in
    subst IsStatement (sym e) (statement_sum a b h g alike (subst Fits e (record { reports = fr; disputed = fd; unassigned = fu; accounts = fa })))

pub is_statement : {E : Type 0} (a b : Stated) (r : Result Stated E) → IsStatement a → IsStatement b → AreAlike a b
    → IfOk r (λ sum. (sum ≡ added a b) × Fits sum) → IfOk r IsStatement
is_statement a b (Ok sum) h g alike f = subst IsStatement (sym f.0) (statement_sum a b h g alike (subst Fits f.0 f.1))
is_statement a b (Err e) h g alike f = f
