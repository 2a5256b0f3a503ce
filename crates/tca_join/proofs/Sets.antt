-- Sets as strictly ascending lists.
use Rattle.std.proofs.Common.{◌≡◌, Bool, true, false, not, ◌&&◌, ◌||◌, List, [], ◌∷◌, ◌++◌, refl, sym, ap, ◌∙◌}
use Rattle.std.specs.List.{list_any, AllByRecursion}
use Rattle.std.specs.List.Sorted.{IsStrictlySortedBy}
use Rattle.std.specs.Ordering.{eq_by_cmp, is_eq, ordering_reverse}
use Rattle.std.specs.Cmp.{IsTotalOrder, tied_itself, alike_right}
use Rattle.std.specs.declared.cmp.Ordering.{Ordering}
use Rattle.std.specs.declared.cmp.Ordering.TheVariants.{Less, Equal, Greater}
use Rattle.std.proofs.lemmas.Map.Lookups.{CmpEqualImpliesEq}
use Rattle.std.proofs.lemmas.Bool.{false≢true}
use Rattle.tca_join.specs.Sets.{by_order, has, put, in_order, IsOrdered}

pub or_swap : (a b c : Bool) → (a || (b || c)) ≡ (b || (a || c))
or_swap true true c = refl
or_swap true false c = refl
or_swap false b c = refl

pub or_again : (a b : Bool) → (a || b) ≡ (a || (a || b))
or_again true b = refl
or_again false b = refl

pub or_assoc : (a b c : Bool) → ((a || b) || c) ≡ (a || (b || c))
or_assoc true b c = refl
or_assoc false b c = refl

pub all_more : {K : Type 0} (P Q : K → Type 0) → ((x : K) → P x → Q x) → (xs : List K) → AllByRecursion P xs → AllByRecursion Q xs
all_more P Q f [] h = tt
all_more P Q f (x ∷ xs) h = (f x h.0, all_more P Q f xs h.1)

module _ {K : Type 0} (R : K → K → Ordering) (o : IsTotalOrder R) where
  pub has-put : (k : K) (xs : List K) (q : K) → has R (put R k xs) q ≡ (eq_by_cmp R q k || has R xs q)
  unfolding has put
  has-put k [] q = refl
  has-put k (x ∷ xs) q =
      elim (R k x) as (λ r. R k x ≡ r → list_any (eq_by_cmp R q) (by_order r (k ∷ x ∷ xs) (x ∷ xs) (x ∷ put R k xs)) ≡ (eq_by_cmp R q k || (eq_by_cmp R q x || list_any (eq_by_cmp R q) xs))) [
        | Less ↦ λ e. refl
        | Equal ↦ λ e. let same : eq_by_cmp R q k ≡ eq_by_cmp R q x = ap is_eq (alike_right o k x q e) in rw same (or_again (eq_by_cmp R q x) (list_any (eq_by_cmp R q) xs))
        | Greater ↦ λ e. ap (λ b. eq_by_cmp R q x || b) (has-put k xs q) ∙ or_swap (eq_by_cmp R q x) (eq_by_cmp R q k) (list_any (eq_by_cmp R q) xs)
      ] refl

  pub has-in_order : (ks : List K) (q : K) → has R (in_order R ks) q ≡ has R ks q
  unfolding in_order has
  has-in_order [] q = refl
  has-in_order (k ∷ ks) q = has-put k (in_order R ks) q ∙ ap (λ b. eq_by_cmp R q k || b) (has-in_order ks q)

  pub has-append : (xs ys : List K) (q : K) → has R (xs ++ ys) q ≡ (has R xs q || has R ys q)
  unfolding has
  has-append [] ys q = refl
  has-append (x ∷ xs) ys q = ap (λ b. eq_by_cmp R q x || b) (has-append xs ys q) ∙ sym (or_assoc (eq_by_cmp R q x) (list_any (eq_by_cmp R q) xs) (has R ys q))

  after : (x y : K) → R x y ≡ Greater → R y x ≡ Less
  after x y e = o.antisymm y x ∙ ap ordering_reverse e

  pub all_put : (P : K → Type 0) (k : K) (xs : List K) → P k → AllByRecursion P xs → AllByRecursion P (put R k xs)
  unfolding put
  all_put P k [] p h = (p, tt)
  all_put P k (x ∷ xs) p h =
      elim (R k x) as (λ r. AllByRecursion P (by_order r (k ∷ x ∷ xs) (x ∷ xs) (x ∷ put R k xs))) [
        | Less ↦ (p, h)
        | Equal ↦ h
        | Greater ↦ (h.0, all_put P k xs p h.1)
      ]

  pub rises_put : (k : K) (xs : List K) → IsStrictlySortedBy R xs → IsStrictlySortedBy R (put R k xs)
  unfolding put IsStrictlySortedBy
  rises_put k [] h = (tt, tt)
  rises_put k (x ∷ xs) h =
      elim (R k x) as (λ r. R k x ≡ r → IsStrictlySortedBy R (by_order r (k ∷ x ∷ xs) (x ∷ xs) (x ∷ put R k xs))) [
        | Less ↦ λ e. ((e, all_more (λ y. R x y ≡ Less) (λ y. R k y ≡ Less) (λ y l. o.trans k x y e l) xs h.0), h)
        | Equal ↦ λ e. h
        | Greater ↦ λ e. (all_put (λ y. R x y ≡ Less) k xs (after k x e) h.0, rises_put k xs h.1)
      ] refl

  pub rises_in_order : (ks : List K) → IsStrictlySortedBy R (in_order R ks)
  unfolding in_order IsStrictlySortedBy
  rises_in_order [] = tt
  rises_in_order (k ∷ ks) = rises_put k (in_order R ks) (rises_in_order ks)

  -- what is below each isn't among them
  not_among : (q : K) (xs : List K) → AllByRecursion (λ y. R q y ≡ Less) xs → has R xs q ≡ false
  unfolding has
  not_among q [] h = refl
  not_among q (x ∷ xs) h = rw (h.0) (not_among q xs h.1)

  none_of : (q : K) → false ≡ has R [] q
  unfolding has
  none_of q = refl

  has_itself : (x : K) (xs : List K) → has R (x ∷ xs) x ≡ true
  unfolding has
  has_itself x xs = rw (tied_itself o x) refl

  -- a member of the tail, by what the whole has
  in_tail : (x : K) (xs : List K) → AllByRecursion (λ y. R x y ≡ Less) xs → (q : K) → has R xs q ≡ (not (eq_by_cmp R q x) && has R (x ∷ xs) q)
  unfolding has
  in_tail x xs h q =
      elim (R q x) as (λ r. R q x ≡ r → has R xs q ≡ (not (is_eq r) && (is_eq r || has R xs q))) [
        | Less ↦ λ e. refl
        | Equal ↦ λ e. not_among q xs (all_more (λ y. R x y ≡ Less) (λ y. R q y ≡ Less) (λ y l. o.congr q x y e ∙ l) xs h)
        | Greater ↦ λ e. refl
      ] refl

  -- two such lists with the same members are one
  pub only_one : CmpEqualImpliesEq R → (xs ys : List K) → IsStrictlySortedBy R xs → IsStrictlySortedBy R ys → ((q : K) → has R xs q ≡ has R ys q) → xs ≡ ys
  unfolding IsStrictlySortedBy
  only_one exact [] [] g h same = refl
  only_one exact [] (y ∷ ys) g h same = absurd (false≢true (none_of y ∙ same y ∙ has_itself y ys))
  only_one exact (x ∷ xs) [] g h same = absurd (false≢true (none_of x ∙ sym (same x) ∙ has_itself x xs))
  only_one exact (x ∷ xs) (y ∷ ys) g h same =
      elim (R x y) as (λ r. R x y ≡ r → x ∷ xs ≡ y ∷ ys) [
        | Less ↦ λ e. absurd (false≢true (sym (not_among x (y ∷ ys) (e, all_more (λ z. R y z ≡ Less) (λ z. R x z ≡ Less) (λ z l. o.trans x y z e l) ys h.0)) ∙ sym (same x) ∙ has_itself x xs))
        | Equal ↦ λ e.
            let heads : x ≡ y = exact x y e in
            let tails : xs ≡ ys = only_one exact xs ys g.1 h.1 (λ q.
            in_tail x xs g.0 q
            ∙ (λ i. not (is_eq (alike_right o x y q e i)) && same q i)
            ∙ sym (in_tail y ys h.0 q)) in
            λ i. heads i ∷ tails i
        | Greater ↦ λ e. let l : R y x ≡ Less = after x y e in absurd (false≢true (sym (not_among y (x ∷ xs) (l, all_more (λ z. R x z ≡ Less) (λ z. R y z ≡ Less) (λ z m. o.trans y x z l m) xs g.0)) ∙ same y ∙ has_itself y ys))
      ] refl

  -- the list of a set, from its members
  pub ordered_is : CmpEqualImpliesEq R → (ks list : List K) → IsOrdered R ks list → list ≡ in_order R ks
  ordered_is exact ks list is = only_one exact list (in_order R ks) is.rises (rises_in_order ks) (λ q. is.members q ∙ sym (has-in_order ks q))

  pub is_ordered : (ks : List K) → IsOrdered R ks (in_order R ks)
  is_ordered ks = record { rises = rises_in_order ks; members = has-in_order ks }
