-- Merging two ascending lists.
use Rattle.std.proofs.Common.{◌≡◌, ℕ, zero, suc, ◌+◌, ◌<◌, ◌≤◌, ◌||◌, List, [], ◌∷◌, ◌++◌, length, get_or, drop, refl, sym, ap, subst, ◌∙◌, append_assoc, add-one}
use Rattle.std.proofs.Math.Seq.{drop-cons}
use Rattle.std.proofs.Math.ListN.{drop_of_length-le}
use Rattle.std.specs.List.{AllByRecursion}
use Rattle.std.specs.List.Sorted.{IsStrictlySortedBy}
use Rattle.std.specs.Ordering.{eq_by_cmp, is_eq, ordering_reverse}
use Rattle.std.specs.Cmp.{IsTotalOrder, alike_right}
use Rattle.std.specs.declared.cmp.Ordering.{Ordering}
use Rattle.std.specs.declared.cmp.Ordering.TheVariants.{Less, Equal, Greater}
use Rattle.std.proofs.lemmas.Map.Lookups.{CmpEqualImpliesEq}
use Rattle.std.proofs.lemmas.List.{append-nil}
use Rattle.tca_join.specs.Sets.{has, put, in_order}
use Rattle.tca_join.proofs.Sets.{has-in_order, has-append, rises_in_order, only_one, all_more, all_put, or_swap, or_again}

all_append : {K : Type 0} (P : K → Type 0) (xs ys : List K) → AllByRecursion P xs → AllByRecursion P ys → AllByRecursion P (xs ++ ys)
all_append P [] ys p q = q
all_append P (x ∷ xs) ys p q = (p.0, all_append P xs ys p.1 q)

module _ {K : Type 0} (R : K → K → Ordering) (o : IsTotalOrder R) (exact : CmpEqualImpliesEq R) where
  all_in_order : (P : K → Type 0) (xs : List K) → AllByRecursion P xs → AllByRecursion P (in_order R xs)
  unfolding in_order
  all_in_order P [] h = tt
  all_in_order P (x ∷ xs) h = all_put R o P x (in_order R xs) h.0 (all_in_order P xs h.1)

  put_first : (x : K) (xs : List K) → AllByRecursion (λ y. R x y ≡ Less) xs → put R x xs ≡ x ∷ xs
  unfolding put
  put_first x [] h = refl
  put_first x (y ∷ ys) h = rw (h.0) refl

  first_of : (x : K) (xs : List K) → AllByRecursion (λ y. R x y ≡ Less) xs → in_order R (x ∷ xs) ≡ x ∷ in_order R xs
  unfolding in_order
  first_of x xs h = put_first x (in_order R xs) (all_in_order (λ y. R x y ≡ Less) xs h)

  pub in_order_alike : (xs ys : List K) → ((q : K) → has R xs q ≡ has R ys q) → in_order R xs ≡ in_order R ys
  in_order_alike xs ys same = only_one R o exact _ _ (rises_in_order R o xs) (rises_in_order R o ys) (λ q. has-in_order R o xs q ∙ same q ∙ sym (has-in_order R o ys q))

  pub in_order_of_rising : (xs : List K) → IsStrictlySortedBy R xs → in_order R xs ≡ xs
  in_order_of_rising xs s = only_one R o exact _ _ (rises_in_order R o xs) s (has-in_order R o xs)

  move_out : (out : List K) (x : K) (rest : List K) (all total : List K) → all ≡ x ∷ rest → out ++ all ≡ total → (out ++ x ∷ []) ++ rest ≡ total
  move_out out x rest all total e so_far = append_assoc out (x ∷ []) rest ∙ ap (λ (l : List K). out ++ l) (sym e) ∙ so_far

  pub take_left : (out a : List K) (x y : K) (b total : List K) → IsStrictlySortedBy R (x ∷ a) → IsStrictlySortedBy R (y ∷ b) → R x y ≡ Less
      → out ++ in_order R ((x ∷ a) ++ (y ∷ b)) ≡ total → (out ++ x ∷ []) ++ in_order R (a ++ (y ∷ b)) ≡ total
  unfolding IsStrictlySortedBy
  take_left out a x y b total s t less = move_out out x (in_order R (a ++ (y ∷ b))) _ total
      (first_of x (a ++ (y ∷ b)) (all_append (λ z. R x z ≡ Less) a (y ∷ b) s.0 (less, all_more (λ z. R y z ≡ Less) (λ z. R x z ≡ Less) (λ z l. o.trans x y z less l) b t.0)))

  pub take_right : (out a : List K) (x y : K) (b total : List K) → IsStrictlySortedBy R (x ∷ a) → IsStrictlySortedBy R (y ∷ b) → R x y ≡ Greater
      → out ++ in_order R ((x ∷ a) ++ (y ∷ b)) ≡ total → (out ++ y ∷ []) ++ in_order R ((x ∷ a) ++ b) ≡ total
  unfolding IsStrictlySortedBy has
  take_right out a x y b total s t greater =
      let less : R y x ≡ Less = o.antisymm y x ∙ ap ordering_reverse greater in
      move_out out y (in_order R ((x ∷ a) ++ b)) _ total
      (in_order_alike ((x ∷ a) ++ (y ∷ b)) (y ∷ ((x ∷ a) ++ b)) (λ q. has-append R o (x ∷ a) (y ∷ b) q ∙ or_swap (has R (x ∷ a) q) (eq_by_cmp R q y) (has R b q) ∙ ap (λ c. eq_by_cmp R q y || c) (sym (has-append R o (x ∷ a) b q)))
      ∙ first_of y ((x ∷ a) ++ b) (all_append (λ z. R y z ≡ Less) (x ∷ a) b (less, all_more (λ z. R x z ≡ Less) (λ z. R y z ≡ Less) (λ z l. o.trans y x z less l) a s.0) t.0))

  pub take_both : (out a : List K) (x y : K) (b total : List K) → IsStrictlySortedBy R (x ∷ a) → IsStrictlySortedBy R (y ∷ b) → R x y ≡ Equal
      → out ++ in_order R ((x ∷ a) ++ (y ∷ b)) ≡ total → (out ++ x ∷ []) ++ in_order R (a ++ b) ≡ total
  unfolding IsStrictlySortedBy has
  take_both out a x y b total s t equal =
      move_out out x (in_order R (a ++ b)) _ total
      (in_order_alike ((x ∷ a) ++ (y ∷ b)) (x ∷ (a ++ b)) (λ q.
      has-append R o (x ∷ a) (y ∷ b) q
      ∙ or_swap (has R (x ∷ a) q) (eq_by_cmp R q y) (has R b q)
      ∙ ap (λ r. is_eq r || (has R (x ∷ a) q || has R b q)) (sym (alike_right o x y q equal))
      ∙ ap (λ c. eq_by_cmp R q x || c) (sym (has-append R o (x ∷ a) b q))
      ∙ sym (or_again (eq_by_cmp R q x) (has R (a ++ b) q)))
      ∙ first_of x (a ++ b) (all_append (λ z. R x z ≡ Less) a b s.0 (all_more (λ z. R y z ≡ Less) (λ z. R x z ≡ Less) (λ z l. o.congr x y z equal ∙ l) b t.0)))

  pub tail_rises : (x : K) (a : List K) → IsStrictlySortedBy R (x ∷ a) → IsStrictlySortedBy R a
  unfolding IsStrictlySortedBy
  tail_rises x a s = s.1

  pub right_left : (out b total : List K) → IsStrictlySortedBy R b → out ++ in_order R ([] ++ b) ≡ total → out ++ b ≡ total
  right_left out b total s so_far = ap (λ (l : List K). out ++ l) (sym (in_order_of_rising b s)) ∙ so_far

  pub left_left : (out a total : List K) → IsStrictlySortedBy R a → out ++ in_order R (a ++ []) ≡ total → out ++ a ≡ total
  left_left out a total s so_far = ap (λ (l : List K). out ++ l) (sym (ap (in_order R) (append-nil a) ∙ in_order_of_rising a s)) ∙ so_far

  pub rises_drop : (i : ℕ) (xs : List K) → IsStrictlySortedBy R xs → IsStrictlySortedBy R (drop i xs)
  rises_drop zero xs s = s
  rises_drop (suc i) [] s = s
  rises_drop (suc i) (x ∷ xs) s = rises_drop i xs (tail_rises x xs s)

  cut : (xs : List K) (i : ℕ) (x : K) → i < length xs → x ≡ get_or xs i x → drop i xs ≡ x ∷ drop (i + 1) xs
  cut xs i x h is = rw add-one (drop-cons xs i x h ∙ ap (λ (y : K). y ∷ drop (suc i) xs) (sym is))

  module _ (out a b total : List K) (i j : ℕ) (x y : K) (s : IsStrictlySortedBy R a) (t : IsStrictlySortedBy R b) (in_a : i < length a) (in_b : j < length b) (x-is : x ≡ get_or a i x) (y-is : y ≡ get_or b j y)
      (so_far : out ++ in_order R (drop i a ++ drop j b) ≡ total) where
    heads : out ++ in_order R ((x ∷ drop (i + 1) a) ++ (y ∷ drop (j + 1) b)) ≡ total
    heads = subst (λ (l : List K). out ++ in_order R (l ++ (y ∷ drop (j + 1) b)) ≡ total) (cut a i x in_a x-is) (subst (λ (l : List K). out ++ in_order R (drop i a ++ l) ≡ total) (cut b j y in_b y-is) so_far)

    rises_a : IsStrictlySortedBy R (x ∷ drop (i + 1) a)
    rises_a = subst (IsStrictlySortedBy R) (cut a i x in_a x-is) (rises_drop i a s)

    rises_b : IsStrictlySortedBy R (y ∷ drop (j + 1) b)
    rises_b = subst (IsStrictlySortedBy R) (cut b j y in_b y-is) (rises_drop j b t)

    pub less_step : R x y ≡ Less → (out ++ x ∷ []) ++ in_order R (drop (i + 1) a ++ drop j b) ≡ total
    less_step e = subst (λ (l : List K). (out ++ x ∷ []) ++ in_order R (drop (i + 1) a ++ l) ≡ total) (sym (cut b j y in_b y-is)) (take_left out (drop (i + 1) a) x y (drop (j + 1) b) total rises_a rises_b e heads)

    pub greater_step : R x y ≡ Greater → (out ++ y ∷ []) ++ in_order R (drop i a ++ drop (j + 1) b) ≡ total
    greater_step e = subst (λ (l : List K). (out ++ y ∷ []) ++ in_order R (l ++ drop (j + 1) b) ≡ total) (sym (cut a i x in_a x-is)) (take_right out (drop (i + 1) a) x y (drop (j + 1) b) total rises_a rises_b e heads)

    pub equal_step : R x y ≡ Equal → (out ++ x ∷ []) ++ in_order R (drop (i + 1) a ++ drop (j + 1) b) ≡ total
    equal_step e = take_both out (drop (i + 1) a) x y (drop (j + 1) b) total rises_a rises_b e heads

  -- once one of the lists is used up
  pub ends_left : (out a b total : List K) (i j : ℕ) → IsStrictlySortedBy R b → length a ≤ i → out ++ in_order R (drop i a ++ drop j b) ≡ total → (out ++ drop i a) ++ drop j b ≡ total
  ends_left out a b total i j t done so_far =
      let none : drop i a ≡ [] = drop_of_length-le a done in
      rw none (append_assoc out [] (drop j b) ∙ right_left out (drop j b) total (rises_drop j b t) (subst (λ (l : List K). out ++ in_order R (l ++ drop j b) ≡ total) none so_far))

  pub ends_right : (out a b total : List K) (i j : ℕ) → IsStrictlySortedBy R a → length b ≤ j → out ++ in_order R (drop i a ++ drop j b) ≡ total → (out ++ drop i a) ++ drop j b ≡ total
  ends_right out a b total i j s done so_far =
      let none : drop j b ≡ [] = drop_of_length-le b done in
      rw none (append-nil (out ++ drop i a) ∙ left_left out (drop i a) total (rises_drop i a s) (subst (λ (l : List K). out ++ in_order R (drop i a ++ l) ≡ total) none so_far))
