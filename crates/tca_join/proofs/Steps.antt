-- Merging two maps pair by pair.
use Rattle.std.proofs.Common.{◌≡◌, ℕ, zero, suc, ◌+◌, ◌<◌, ◌≤◌, Bool, true, false, ◌||◌, Option, None, Some, List, [], ◌∷◌, ◌++◌, length, drop, get_or, refl, sym, ap, ◌∙◌, subst, arith, add-one, append_assoc}
use Rattle.std.proofs.Math.Seq.{drop-cons}
use Rattle.std.proofs.Math.ListN.{drop_of_length-le}
use Rattle.std.proofs.lemmas.List.{append-nil}
use Rattle.std.specs.List.{AllByRecursion}
use Rattle.std.proofs.lemmas.Bool.{eq-eqb, ne_eqb}
use Rattle.tca_join.specs.Maps.{put, merged, Rises, clash_key, map_full, first_of}
use Rattle.tca_join.specs.laws.MapLaws.{not_there, all_above}
use Rattle.tca_join.specs.Joins.{Joins}
use Rattle.tca_join.proofs.Positions.{greater_is, less_is, equal_is}

module _ {V : Type 0} where
  -- every key is above this one
  abbrev Above : ℕ → List (ℕ × V) → Type 0
  Above key es = AllByRecursion (λ next. key < next.0) es

  module _ (f : V → V → V) where
    -- a first pair below all of the other map's comes first
    merge_left : (x : ℕ × V) (a b : List (ℕ × V)) → Above x.0 b → merged f (x ∷ a) b ≡ x ∷ merged f a b
    merge_left x a [] h = refl
    merge_left x a (e ∷ b) h = rw (greater_is e.0 x.0 h.0) (merge_left x (put f e.0 e.1 a) b h.1)

    put_first : (y : ℕ × V) (a : List (ℕ × V)) → Above y.0 a → put f y.0 y.1 a ≡ y ∷ a
    put_first y [] h = refl
    put_first y (x ∷ a) h = rw (less_is y.0 x.0 h.0) refl

    merge_right : (y : ℕ × V) (a b : List (ℕ × V)) → Above y.0 a → Above y.0 b → merged f a (y ∷ b) ≡ y ∷ merged f a b
    merge_right y a b h k = ap (λ z. merged f z b) (put_first y a h) ∙ merge_left y a b k

    merge_both : (x y : ℕ × V) (a b : List (ℕ × V)) → x.0 ≡ y.0 → Above y.0 b → merged f (x ∷ a) (y ∷ b) ≡ (y.0, f x.1 y.1) ∷ merged f a b
    merge_both x y a b e h = rw (equal_is y.0 x.0 (sym e)) (merge_left (y.0, f x.1 y.1) a b h)

    merge_nothing : (b : List (ℕ × V)) → Rises b → merged f [] b ≡ b
    merge_nothing [] r = refl
    merge_nothing (e ∷ b) r = merge_left e [] b r.0 ∙ ap (λ z. e ∷ z) (merge_nothing b r.1)

  -- a pair below all of the other map's has no part in a clash
  clash_skip : (clash : V → V → Option ℕ) (x : ℕ × V) (a b : List (ℕ × V)) → Above x.0 b → clash_key clash (x ∷ a) b ≡ clash_key clash a b
  clash_skip clash x a [] h = refl
  clash_skip clash x a (e ∷ b) h = rw (ne_eqb e.0 x.0 (λ z. omega (arith, h.0, z)), clash_skip clash x a b h.1) refl

  clash_right : (clash : V → V → Option ℕ) (y : ℕ × V) (a b : List (ℕ × V)) → Above y.0 a → clash_key clash a (y ∷ b) ≡ clash_key clash a b
  clash_right clash y a b h = rw (not_there a y.0 h) refl

  clash_both : (clash : V → V → Option ℕ) (x y : ℕ × V) (a b : List (ℕ × V)) → x.0 ≡ y.0 → Above y.0 b → clash_key clash (x ∷ a) (y ∷ b) ≡ first_of (clash x.1 y.1) y.0 (clash_key clash a b)
  clash_both clash x y a b e h = rw (eq-eqb y.0 x.0 (sym e), clash_skip clash x a b (subst (λ k. Above k b) (sym e) h)) refl

  -- nor in a join that is too large
  full_skip : (full : V → V → Bool) (x : ℕ × V) (a b : List (ℕ × V)) → Above x.0 b → map_full full (x ∷ a) b ≡ map_full full a b
  full_skip full x a [] h = refl
  full_skip full x a (e ∷ b) h = rw (ne_eqb e.0 x.0 (λ z. omega (arith, h.0, z)), full_skip full x a b h.1) refl

  full_right : (full : V → V → Bool) (y : ℕ × V) (a b : List (ℕ × V)) → Above y.0 a → map_full full a (y ∷ b) ≡ map_full full a b
  full_right full y a b h = rw (not_there a y.0 h) refl

  full_both : (full : V → V → Bool) (x y : ℕ × V) (a b : List (ℕ × V)) → x.0 ≡ y.0 → Above y.0 b → map_full full (x ∷ a) (y ∷ b) ≡ (full x.1 y.1 || map_full full a b)
  full_both full x y a b e h = rw (eq-eqb y.0 x.0 (sym e), full_skip full x a b (subst (λ k. Above k b) (sym e) h)) refl

rises_drop : {V : Type 0} (i : ℕ) (es : List (ℕ × V)) → Rises es → Rises (drop i es)
rises_drop zero es r = r
rises_drop (suc i) [] r = r
rises_drop (suc i) (e ∷ es) r = rises_drop i es r.1

cut : {V : Type 0} (xs : List (ℕ × V)) (i : ℕ) (x : ℕ × V) → i < length xs → x ≡ get_or xs i x → drop i xs ≡ x ∷ drop (i + 1) xs
cut {V} xs i x h is = drop-cons xs i x h ∙ rw (← add-one i) (ap (λ (y : ℕ × V). y ∷ drop (i + 1) xs) (sym is))

first_none : (o : Option ℕ) (key : ℕ) (rest : Option ℕ) → first_of o key rest ≡ None → (o ≡ None) × (rest ≡ None)
first_none None key rest e = (refl, e)
first_none (Some n) key rest e = absurd cc

or_false : (a b : Bool) → (a || b) ≡ false → (a ≡ false) × (b ≡ false)
or_false true b e = absurd cc
or_false false b e = (refl, e)

-- What is made of two maps, and what is left of each, which has a join.
pub record IsMerge {V : Type 0} (clash : V → V → Option ℕ) (full : V → V → Bool) (joined : V → V → V) (first second out a b : List (ℕ × V)) : Type 0 where
  pub so_far : out ++ merged joined a b ≡ merged joined first second
  pub joins : Joins (clash_key clash) (map_full full) a b

module _ {V : Type 0} (clash : V → V → Option ℕ) (full : V → V → Bool) (joined : V → V → V) (first second out : List (ℕ × V)) where
  abbrev M : List (ℕ × V) → List (ℕ × V) → List (ℕ × V) → Type 0
  M made a b = IsMerge clash full joined first second made a b

  moved : (x : ℕ × V) (rest whole : List (ℕ × V)) → whole ≡ x ∷ rest → out ++ whole ≡ merged joined first second → (out ++ x ∷ []) ++ rest ≡ merged joined first second
  moved x rest whole is e = append_assoc out (x ∷ []) rest ∙ ap (λ (z : List (ℕ × V)). out ++ z) (sym is) ∙ e

  less : (x y : ℕ × V) (a b : List (ℕ × V)) → Rises (y ∷ b) → x.0 < y.0 → M out (x ∷ a) (y ∷ b) → M (out ++ x ∷ []) a (y ∷ b)
  less x y a b s l m =
      let above : Above x.0 (y ∷ b) = (l, all_above b x.0 y.0 l s.0) in
      record {
        so_far = moved x (merged joined a (y ∷ b)) (merged joined (x ∷ a) (y ∷ b)) (merge_left joined x a (y ∷ b) above) m.so_far;
        joins = (sym (clash_skip clash x a (y ∷ b) above) ∙ m.joins.0, sym (full_skip full x a (y ∷ b) above) ∙ m.joins.1);
      }

  greater : (x y : ℕ × V) (a b : List (ℕ × V)) → Rises (x ∷ a) → Rises (y ∷ b) → y.0 < x.0 → M out (x ∷ a) (y ∷ b) → M (out ++ y ∷ []) (x ∷ a) b
  greater x y a b r s l m =
      let above : Above y.0 (x ∷ a) = (l, all_above a y.0 x.0 l r.0) in
      record {
        so_far = moved y (merged joined (x ∷ a) b) (merged joined (x ∷ a) (y ∷ b)) (merge_right joined y (x ∷ a) b above s.0) m.so_far;
        joins = (sym (clash_right clash y (x ∷ a) b above) ∙ m.joins.0, sym (full_right full y (x ∷ a) b above) ∙ m.joins.1);
      }

  -- two values at one key have a join, and so have the pairs behind them
  parts : (x y : ℕ × V) (a b : List (ℕ × V)) → Rises (y ∷ b) → x.0 ≡ y.0 → M out (x ∷ a) (y ∷ b) → Joins clash full x.1 y.1 × Joins (clash_key clash) (map_full full) a b
  parts x y a b s e m =
      let clashes = first_none (clash x.1 y.1) y.0 (clash_key clash a b) (sym (clash_both clash x y a b e s.0) ∙ m.joins.0) in
      let fulls = or_false (full x.1 y.1) (map_full full a b) (sym (full_both full x y a b e s.0) ∙ m.joins.1) in
      ((clashes.0, fulls.0), (clashes.1, fulls.1))

  both : (x y : ℕ × V) (a b : List (ℕ × V)) → Rises (y ∷ b) → x.0 ≡ y.0 → M out (x ∷ a) (y ∷ b) → M (out ++ (y.0, joined x.1 y.1) ∷ []) a b
  both x y a b s e m =
      record {
        so_far = moved (y.0, joined x.1 y.1) (merged joined a b) (merged joined (x ∷ a) (y ∷ b)) (merge_both joined x y a b e s.0) m.so_far;
        joins = (parts x y a b s e m).1;
      }

-- The same by the indexes up to which the maps are merged.
module _ {V : Type 0} (clash : V → V → Option ℕ) (full : V → V → Bool) (joined : V → V → V) (first second out : List (ℕ × V)) (i j : ℕ) where
  abbrev At : List (ℕ × V) → ℕ → ℕ → Type 0
  At made n m = IsMerge clash full joined first second made (drop n first) (drop m second)

  module _ (x y : ℕ × V) (r : Rises first) (s : Rises second) (h : i < length first) (k : j < length second) (x-is : x ≡ get_or first i x) (y-is : y ≡ get_or second j y) (before : At out i j) where
    r-here : Rises (x ∷ drop (i + 1) first)
    r-here = subst Rises (cut first i x h x-is) (rises_drop i first r)

    s-here : Rises (y ∷ drop (j + 1) second)
    s-here = subst Rises (cut second j y k y-is) (rises_drop j second s)

    here : IsMerge clash full joined first second out (x ∷ drop (i + 1) first) (y ∷ drop (j + 1) second)
    here =
        subst (λ z. IsMerge clash full joined first second out z (y ∷ drop (j + 1) second)) (cut first i x h x-is)
        (subst (λ z. IsMerge clash full joined first second out (drop i first) z) (cut second j y k y-is) before)

    pub less_step : x.0 < y.0 → At (out ++ x ∷ []) (i + 1) j
    less_step l =
        subst (λ z. IsMerge clash full joined first second (out ++ x ∷ []) (drop (i + 1) first) z) (sym (cut second j y k y-is))
        (less clash full joined first second out x y (drop (i + 1) first) (drop (j + 1) second) s-here l here)

    pub greater_step : y.0 < x.0 → At (out ++ y ∷ []) i (j + 1)
    greater_step l =
        subst (λ z. IsMerge clash full joined first second (out ++ y ∷ []) z (drop (j + 1) second)) (sym (cut first i x h x-is))
        (greater clash full joined first second out x y (drop (i + 1) first) (drop (j + 1) second) r-here s-here l here)

    pub both_step : x.0 ≡ y.0 → At (out ++ (y.0, joined x.1 y.1) ∷ []) (i + 1) (j + 1)
    both_step e = both clash full joined first second out x y (drop (i + 1) first) (drop (j + 1) second) s-here e here

    pub values_join : x.0 ≡ y.0 → Joins clash full x.1 y.1
    values_join e = (parts clash full joined first second out x y (drop (i + 1) first) (drop (j + 1) second) s-here e here).0

  -- once the one or the other is used up
  pub left_done : Rises second → length first ≤ i → At out i j → (out ++ drop i first) ++ drop j second ≡ merged joined first second
  left_done s h m =
      let none : drop i first ≡ [] = drop_of_length-le first h in
      let so_far = subst (λ z. out ++ merged joined z (drop j second) ≡ merged joined first second) none m.so_far in
      ap (λ (z : List (ℕ × V)). (out ++ z) ++ drop j second) none ∙ append_assoc out [] (drop j second) ∙ ap (λ (z : List (ℕ × V)). out ++ z) (sym (merge_nothing joined (drop j second) (rises_drop j second s))) ∙ so_far

  pub right_done : length second ≤ j → At out i j → (out ++ drop i first) ++ drop j second ≡ merged joined first second
  right_done h m =
      let none : drop j second ≡ [] = drop_of_length-le second h in
      let so_far = subst (λ z. out ++ merged joined (drop i first) z ≡ merged joined first second) none m.so_far in
      ap (λ (z : List (ℕ × V)). (out ++ drop i first) ++ z) none ∙ append-nil (out ++ drop i first) ∙ so_far
