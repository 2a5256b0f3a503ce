-- The first period of a sum, and the sum of periods that are statements'.
use Rattle.std.proofs.Common.{◌≡◌, ◌<◌, ◌∷◌, [], ℕ, List, length, arith, subst, sym, ap, refl, ◌∙◌}
use Rattle.std.specs.List.Sorted.{IsStrictlySortedBy}
use Rattle.std.specs.Ordering.{nat_cmp}
use Rattle.std.specs.declared.cmp.Ordering.TheVariants.{Less}
use Rattle.std.proofs.lemmas.List.{nil_from_length}
use Rattle.tca_figures.specs.Figures.{AllFit64, Ascend, plus}
use Rattle.tca_join.specs.Sets.{in_order}
use Rattle.tca_figures.specs.Sums.{AllFit, AreInOrder, IsFirst, added_spans, indexes}
use Rattle.tca_figures.specs.declared.figures.SpanFigures.{SpanFigures}
use Rattle.tca_figures.proofs.Ascending.{less, less_is}
use Rattle.tca_figures.proofs.Merged.{AreBehind, both_first, left_first, right_first}
use Rattle.tca_join.proofs.Sets.{all_more}

head_behind : (x : SpanFigures) (spans : List SpanFigures) → Ascend (x ∷ spans) → AreBehind x.index spans
unfolding IsStrictlySortedBy
head_behind x spans h = h.0

others_ascend : (x : SpanFigures) (spans : List SpanFigures) → Ascend (x ∷ spans) → Ascend spans
unfolding IsStrictlySortedBy
others_ascend x spans h = h.1

none_ascend : Ascend []
unfolding IsStrictlySortedBy
none_ascend = tt

-- what is behind a later period is behind an earlier one
all_behind : (k : ℕ) (y : SpanFigures) (spans : List SpanFigures) → k < y.index → Ascend (y ∷ spans) → AreBehind k (y ∷ spans)
all_behind k y spans h a = (
  less_is k y.index h,
  all_more (λ q. nat_cmp y.index q ≡ Less) (λ q. nat_cmp k q ≡ Less) (λ q l. let m = less y.index q l in less_is k q (omega (arith, h, m))) (indexes spans) (head_behind y spans a),
)

pub others : (x : SpanFigures) (spans : List SpanFigures) → AreInOrder (x ∷ spans) → AreInOrder spans
others x spans h = (others_ascend x spans h.0, h.1.1)

pub none_in_order : AreInOrder []
none_in_order = (none_ascend, tt)

pub nothing_added : added_spans [] [] ≡ []
unfolding in_order
nothing_added = refl

pub first_right : (y : SpanFigures) (bs : List SpanFigures) → AreInOrder (y ∷ bs) → IsFirst [] (y ∷ bs) y [] bs
first_right y bs h = record {
  sum = right_first [] y bs tt (head_behind y bs h.0);
  fits = h.1.0;
  left_order = (none_ascend, tt);
  right_order = others y bs h;
  fewer = omega arith;
}

pub first_left : (x : SpanFigures) (as_ : List SpanFigures) → AreInOrder (x ∷ as_) → IsFirst (x ∷ as_) [] x as_ []
first_left x as_ h = record {
  sum = left_first x as_ [] (head_behind x as_ h.0) tt;
  fits = h.1.0;
  left_order = others x as_ h;
  right_order = (none_ascend, tt);
  fewer = omega arith;
}

pub first_less : (x : SpanFigures) (as_ : List SpanFigures) (y : SpanFigures) (bs : List SpanFigures) → AreInOrder (x ∷ as_) → AreInOrder (y ∷ bs)
    → x.index < y.index → IsFirst (x ∷ as_) (y ∷ bs) x as_ (y ∷ bs)
first_less x as_ y bs h g l = record {
  sum = left_first x as_ (y ∷ bs) (head_behind x as_ h.0) (all_behind x.index y bs l g.0);
  fits = h.1.0;
  left_order = others x as_ h;
  right_order = g;
  fewer = omega arith;
}

pub first_greater : (x : SpanFigures) (as_ : List SpanFigures) (y : SpanFigures) (bs : List SpanFigures) → AreInOrder (x ∷ as_) → AreInOrder (y ∷ bs)
    → y.index < x.index → IsFirst (x ∷ as_) (y ∷ bs) y (x ∷ as_) bs
first_greater x as_ y bs h g l = record {
  sum = right_first (x ∷ as_) y bs (all_behind y.index x as_ l h.0) (head_behind y bs g.0);
  fits = g.1.0;
  left_order = h;
  right_order = others y bs g;
  fewer = omega arith;
}

pub equal_sum : (x : SpanFigures) (as_ : List SpanFigures) (y : SpanFigures) (bs : List SpanFigures) → AreInOrder (x ∷ as_) → AreInOrder (y ∷ bs)
    → x.index ≡ y.index → added_spans (x ∷ as_) (y ∷ bs) ≡ record { index = x.index; sums = plus x.sums y.sums } ∷ added_spans as_ bs
equal_sum x as_ y bs h g e = both_first x as_ y bs e (head_behind x as_ h.0) (subst (λ k. AreBehind k bs) (sym e) (head_behind y bs g.0))

pub first_equal : (x : SpanFigures) (as_ : List SpanFigures) (y : SpanFigures) (bs : List SpanFigures) (sum : SpanFigures) → AreInOrder (x ∷ as_) → AreInOrder (y ∷ bs)
    → x.index ≡ y.index → sum ≡ record { index = x.index; sums = plus x.sums y.sums } → AllFit64 sum.sums → IsFirst (x ∷ as_) (y ∷ bs) sum as_ bs
first_equal x as_ y bs sum h g e is fits = record {
  sum = equal_sum x as_ y bs h g e ∙ ap (λ z. z ∷ added_spans as_ bs) (sym is);
  fits = fits;
  left_order = others x as_ h;
  right_order = others y bs g;
  fewer = omega arith;
}

pub first_range : (x : SpanFigures) (as_ : List SpanFigures) (y : SpanFigures) (bs : List SpanFigures) → AreInOrder (x ∷ as_) → AreInOrder (y ∷ bs)
    → x.index ≡ y.index → ¬ AllFit64 (plus x.sums y.sums) → ¬ AllFit (added_spans (x ∷ as_) (y ∷ bs))
first_range x as_ y bs h g e wide all = wide (subst AllFit (equal_sum x as_ y bs h g e) all).0

-- the same of slices that are known by their first member and the others
module _ (left right : List SpanFigures) (h : AreInOrder left) (g : AreInOrder right) where
  pub only_left : (x : SpanFigures) (as_ : List SpanFigures) → left ≡ x ∷ as_ → length right ≡ 0 → IsFirst left right x as_ right
  only_left x as_ e n =
      let none = nil_from_length right n in
      subst (λ z. IsFirst left z x as_ z) (sym none) (subst (λ z. IsFirst z [] x as_ []) (sym e) (first_left x as_ (subst AreInOrder e h)))

  pub only_right : (y : SpanFigures) (bs : List SpanFigures) → left ≡ [] → right ≡ y ∷ bs → IsFirst left right y left bs
  only_right y bs n e =
      subst (λ z. IsFirst z right y z bs) (sym n) (subst (λ z. IsFirst [] z y [] bs) (sym e) (first_right y bs (subst AreInOrder e g)))

  module _ (x : SpanFigures) (as_ : List SpanFigures) (y : SpanFigures) (bs : List SpanFigures) (el : left ≡ x ∷ as_) (er : right ≡ y ∷ bs) where
    pub when_less : x.index < y.index → IsFirst left right x as_ right
    when_less l =
        subst (λ z. IsFirst z right x as_ right) (sym el)
        (subst (λ z. IsFirst (x ∷ as_) z x as_ z) (sym er) (first_less x as_ y bs (subst AreInOrder el h) (subst AreInOrder er g) l))

    pub when_greater : y.index < x.index → IsFirst left right y left bs
    when_greater l =
        subst (λ z. IsFirst z right y z bs) (sym el)
        (subst (λ z. IsFirst (x ∷ as_) z y (x ∷ as_) bs) (sym er) (first_greater x as_ y bs (subst AreInOrder el h) (subst AreInOrder er g) l))

    pub when_equal : (sum : SpanFigures) → x.index ≡ y.index → sum ≡ record { index = x.index; sums = plus x.sums y.sums } → AllFit64 sum.sums → IsFirst left right sum as_ bs
    when_equal sum e is fits =
        subst (λ z. IsFirst z right sum as_ bs) (sym el)
        (subst (λ z. IsFirst (x ∷ as_) z sum as_ bs) (sym er) (first_equal x as_ y bs sum (subst AreInOrder el h) (subst AreInOrder er g) e is fits))

    pub when_wide : x.index ≡ y.index → ¬ AllFit64 (plus x.sums y.sums) → ¬ AllFit (added_spans left right)
    when_wide e wide =
        subst (λ z. ¬ AllFit (added_spans z right)) (sym el)
        (subst (λ z. ¬ AllFit (added_spans (x ∷ as_) z)) (sym er) (first_range x as_ y bs (subst AreInOrder el h) (subst AreInOrder er g) e wide))
