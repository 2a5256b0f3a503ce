-- Rows that are gone through beside keys in their order.
use Rattle.std.proofs.Common.{Bor, ◌≡◌, Bool, true, false, not, ◌||◌, cond, List, [], ◌∷◌, ◌++◌, filter, refl, sym, ap, ◌∙◌, append_assoc}
use Rattle.std.specs.Prelude.{Option, Some, None, option_copied}
use Rattle.std.specs.Iterator.{YieldsFirstRef}
use Rattle.std.specs.List.{AllByRecursion, list_any}
use Rattle.std.specs.List.Sorted.{IsStrictlySortedBy}
use Rattle.std.specs.Ordering.{eq_by_cmp, is_eq, is_lt}
use Rattle.std.specs.Cmp.{IsTotalOrder}
use Rattle.std.specs.declared.cmp.Ordering.{Ordering}
use Rattle.std.specs.declared.cmp.Ordering.TheVariants.{Less, Equal, Greater}
use Rattle.std.proofs.lemmas.List.Kept.{IsStrictlySortedBy-filter}
use Rattle.tca_join.specs.Sets.{has, put}
use Rattle.tca_join.proofs.Sets.{all_more}
use Rattle.tca_log.specs.Rows.Ordered.{before_key, from_key, seen_first, put_each, AreApart}
use Rattle.tca_log.proofs.OrderedRows.Each.{filter_all}
use Rattle.tca_log.proofs.OrderedRows.Parts.{above_less, has_above, lt_less, or_parts, put_past, turned}
use Rattle.tca_log.proofs.OrderedRows.Ranks.{not_below}

-- what an iterator gave, before what it has left, is what it had
pub seen_next : {K : Type 0} (old new : List K) (given : Option (Bor K)) → YieldsFirstRef (λ s. s) old given new → seen_first (option_copied given) new ≡ old
seen_next old new (Some x) h = sym h
seen_next old new None h = sym h.0

module _ {K : Type 0} (R : K → K → Ordering) (o : IsTotalOrder R) where
  pub from_less : (k x : K) (xs : List K) → R x k ≡ Less → from_key R k (x ∷ xs) ≡ from_key R k xs
  unfolding from_key
  from_less k x xs h = rw h refl

  pub before_less : (k x : K) (xs : List K) → R x k ≡ Less → before_key R k (x ∷ xs) ≡ x ∷ before_key R k xs
  unfolding before_key
  before_less k x xs h = rw h refl

  none_before : (k : K) (xs : List K) → AllByRecursion (λ y. is_lt (R y k) ≡ false) xs → before_key R k xs ≡ []
  unfolding before_key
  none_before k [] h = refl
  none_before k (x ∷ xs) h = rw (h.0) (none_before k xs h.1)

  none_lower : (k x : K) (xs : List K) → IsStrictlySortedBy R (x ∷ xs) → is_lt (R x k) ≡ false → AllByRecursion (λ y. is_lt (R y k) ≡ false) (x ∷ xs)
  unfolding IsStrictlySortedBy
  none_lower k x xs s h = (h, all_more (λ y. R x y ≡ Less) (λ y. is_lt (R y k) ≡ false) (λ y l. not_below R o x y k l h) xs s.0)

  pub from_rest : (k x : K) (xs : List K) → IsStrictlySortedBy R (x ∷ xs) → is_lt (R x k) ≡ false → from_key R k (x ∷ xs) ≡ x ∷ xs
  unfolding from_key
  from_rest k x xs s h =
      filter_all (λ y. not (is_lt (R y k))) (x ∷ xs) (all_more (λ y. is_lt (R y k) ≡ false) (λ y. not (is_lt (R y k)) ≡ true) (λ y e. ap not e) (x ∷ xs) (none_lower k x xs s h))

  pub before_rest : (k x : K) (xs : List K) → IsStrictlySortedBy R (x ∷ xs) → is_lt (R x k) ≡ false → before_key R k (x ∷ xs) ≡ []
  before_rest k x xs s h = none_before k (x ∷ xs) (none_lower k x xs s h)

  pub from_none : (k : K) → from_key R k [] ≡ []
  unfolding from_key
  from_none k = refl

  pub before_none : (k : K) → before_key R k [] ≡ []
  unfolding before_key
  before_none k = refl

  pub has_none : (k : K) → has R [] k ≡ false
  unfolding has
  has_none k = refl

  pub has_less : (k x : K) (xs : List K) → R x k ≡ Less → has R (x ∷ xs) k ≡ has R xs k
  unfolding has
  has_less k x xs h = rw (turned R o x k Less h) refl

  pub has_equal : (k x : K) (xs : List K) → R x k ≡ Equal → has R (x ∷ xs) k ≡ true
  unfolding has
  has_equal k x xs h = rw (turned R o x k Equal h) refl

  pub has_greater : (k x : K) (xs : List K) → IsStrictlySortedBy R (x ∷ xs) → R x k ≡ Greater → has R (x ∷ xs) k ≡ false
  unfolding IsStrictlySortedBy
  has_greater k x xs s h =
      let less : R k x ≡ Less = turned R o x k Greater h in
      has_above R o k (x ∷ xs) (less, above_less R o k x xs less s.0)

  pub tail_rises : (x : K) (xs : List K) → IsStrictlySortedBy R (x ∷ xs) → IsStrictlySortedBy R xs
  unfolding IsStrictlySortedBy
  tail_rises x xs s = s.1

  pub split_key : (k : K) (xs : List K) → IsStrictlySortedBy R xs → xs ≡ before_key R k xs ++ from_key R k xs
  split_key k [] s = sym (λ i. before_none k i ++ from_none k i)
  split_key k (x ∷ xs) s =
      elim (R x k) as (λ r. R x k ≡ r → x ∷ xs ≡ before_key R k (x ∷ xs) ++ from_key R k (x ∷ xs)) [
        | Less ↦ λ e. ap (λ (l : List K). x ∷ l) (split_key k xs (tail_rises x xs s)) ∙ sym (λ i. before_less k x xs e i ++ from_less k x xs e i)
        | Equal ↦ λ e. sym (λ i. before_rest k x xs s (ap is_lt e) i ++ from_rest k x xs s (ap is_lt e) i)
        | Greater ↦ λ e. sym (λ i. before_rest k x xs s (ap is_lt e) i ++ from_rest k x xs s (ap is_lt e) i)
      ] refl

  all_before : (k : K) (xs : List K) → AllByRecursion (λ x. R x k ≡ Less) (before_key R k xs)
  unfolding before_key
  all_before k [] = tt
  all_before k (x ∷ xs) =
      elim (is_lt (R x k)) as (λ b. is_lt (R x k) ≡ b → AllByRecursion (λ y. R y k ≡ Less) (cond b (x ∷ before_key R k xs) (before_key R k xs))) [
        | true ↦ λ e. (lt_less (R x k) e, all_before k xs)
        | false ↦ λ e. all_before k xs
      ] refl

  pub rises_from : (k : K) (xs : List K) → IsStrictlySortedBy R xs → IsStrictlySortedBy R (from_key R k xs)
  unfolding from_key
  rises_from k xs s = IsStrictlySortedBy-filter R (λ x. not (is_lt (R x k))) xs s

  -- a later key is among those that are left exactly where it was there
  pub has_from : (k : K) (xs : List K) (q : K) → R k q ≡ Less → has R (from_key R k xs) q ≡ has R xs q
  unfolding from_key has
  has_from k [] q l = refl
  has_from k (x ∷ xs) q l =
      elim (is_lt (R x k)) as (λ b. is_lt (R x k) ≡ b → list_any (eq_by_cmp R q) (cond (not b) (x ∷ filter (λ y. not (is_lt (R y k))) xs) (filter (λ y. not (is_lt (R y k))) xs)) ≡ (eq_by_cmp R q x || list_any (eq_by_cmp R q) xs)) [
        | true ↦ λ e. has_from k xs q l ∙ sym (ap (λ b. is_eq b || list_any (eq_by_cmp R q) xs) (turned R o x q Less (o.trans x k q (lt_less (R x k) e) l)))
        | false ↦ λ e. ap (λ b. eq_by_cmp R q x || b) (has_from k xs q l)
      ] refl

  all_above : (k : K) (xs : List K) → has R xs k ≡ false → AllByRecursion (λ x. R k x ≡ Less) (from_key R k xs)
  unfolding from_key has
  all_above k [] h = tt
  all_above k (x ∷ xs) h =
      let parts = or_parts (eq_by_cmp R k x) (list_any (eq_by_cmp R k) xs) h in
      elim (R x k) as (λ r. R x k ≡ r → AllByRecursion (λ y. R k y ≡ Less) (cond (not (is_lt r)) (x ∷ filter (λ y. not (is_lt (R y k))) xs) (filter (λ y. not (is_lt (R y k))) xs))) [
        | Less ↦ λ e. all_above k xs parts.1
        | Equal ↦ λ e. absurd (let same : false ≡ true = sym parts.0 ∙ ap is_eq (turned R o x k Equal e) in cc)
        | Greater ↦ λ e. (turned R o x k Greater e, all_above k xs parts.1)
      ] refl

  put_above : (k : K) (xs : List K) → AllByRecursion (λ x. R k x ≡ Less) xs → put R k xs ≡ k ∷ xs
  unfolding put
  put_above k [] h = refl
  put_above k (x ∷ xs) h = rw (h.0) refl

  put_each_past : (ks xs ys : List K) → AllByRecursion (λ k. AllByRecursion (λ x. R x k ≡ Less) xs) ks → put_each R ks (xs ++ ys) ≡ xs ++ put_each R ks ys
  unfolding put_each
  put_each_past [] xs ys h = refl
  put_each_past (k ∷ ks) xs ys h = ap (put_each R ks) (put_past R o k xs ys h.0) ∙ put_each_past ks xs (put R k ys) h.1

  absent_from : (p : K → Bool) (xs : List K) (q : K) → has R xs q ≡ false → has R (filter p xs) q ≡ false
  unfolding has
  absent_from p [] q h = refl
  absent_from p (x ∷ xs) q h =
      let parts = or_parts (eq_by_cmp R q x) (list_any (eq_by_cmp R q) xs) h in
      elim (p x) as (λ b. list_any (eq_by_cmp R q) (cond b (x ∷ filter p xs) (filter p xs)) ≡ false) [
        | true ↦ ap (λ b. b || list_any (eq_by_cmp R q) (filter p xs)) parts.0 ∙ absent_from p xs q parts.1
        | false ↦ absent_from p xs q parts.1
      ]

  pub apart_from : (k : K) (ks xs : List K) → AreApart R ks xs → AreApart R ks (from_key R k xs)
  unfolding from_key
  apart_from k ks xs h = all_more (λ j. has R xs j ≡ false) (λ j. has R (filter (λ x. not (is_lt (R x k))) xs) j ≡ false) (λ j e. absent_from (λ x. not (is_lt (R x k))) xs j e) ks h

  -- one more key: the rows before it, and it
  pub merge_next : (out left : List K) (k : K) (ks total : List K) → IsStrictlySortedBy R left → IsStrictlySortedBy R (k ∷ ks) → AreApart R (k ∷ ks) left → out ++ put_each R (k ∷ ks) left ≡ total
      → ((out ++ before_key R k left) ++ k ∷ []) ++ put_each R ks (from_key R k left) ≡ total
  unfolding put_each IsStrictlySortedBy
  merge_next out left k ks total s t apart so_far =
      let before = before_key R k left in
      let from = from_key R k left in
      let placed : put R k left ≡ (before ++ k ∷ []) ++ from = ap (put R k) (split_key k left s) ∙ put_past R o k before from (all_before k left) ∙ ap (λ (l : List K). before ++ l) (put_above k from (all_above k left apart.0)) ∙ sym (append_assoc before (k ∷ []) from) in
      let moved : put_each R ks (put R k left) ≡ (before ++ k ∷ []) ++ put_each R ks from = ap (put_each R ks) placed ∙ put_each_past ks (before ++ k ∷ []) from (below ks t.0) in
      append_assoc (out ++ before) (k ∷ []) (put_each R ks from)
      ∙ append_assoc out before (k ∷ put_each R ks from)
      ∙ ap (λ (l : List K). out ++ l) (sym (append_assoc before (k ∷ []) (put_each R ks from)) ∙ sym moved)
      ∙ so_far
    where
      snoc : (j : K) (ys : List K) → AllByRecursion (λ x. R x k ≡ Less) ys → R k j ≡ Less → AllByRecursion (λ x. R x j ≡ Less) (ys ++ k ∷ [])
      snoc j [] g l = (l, tt)
      snoc j (y ∷ ys) g l = (o.trans y k j g.0 l, snoc j ys g.1 l)

      below : (js : List K) → AllByRecursion (λ j. R k j ≡ Less) js → AllByRecursion (λ j. AllByRecursion (λ x. R x j ≡ Less) (before_key R k left ++ k ∷ [])) js
      below [] h = tt
      below (j ∷ js) h = (snoc j (before_key R k left) (all_before k left) h.0, below js h.1)

-- rows and keys that are merged: the list so far, with the keys that are left put into the rows that are left, is all of them
pub record AreMerging {K : Type 0} (R : K → K → Ordering) (out keys left total : List K) : Type 0 where
  pub so_far : out ++ put_each R keys left ≡ total
  pub rises : IsStrictlySortedBy R left
  pub rises_keys : IsStrictlySortedBy R keys
  pub apart : AreApart R keys left

-- keys that are looked for among rows: what is left tells of each as all rows do
pub record ArePassing {K : Type 0} (R : K → K → Ordering) (keys rows left : List K) : Type 0 where
  pub rises : IsStrictlySortedBy R left
  pub rises_keys : IsStrictlySortedBy R keys
  pub same : AllByRecursion (λ q. has R left q ≡ has R rows q) keys

module _ {K : Type 0} (R : K → K → Ordering) (o : IsTotalOrder R) where
  pub merging_next : (out out2 left left2 : List K) (k : K) (ks total : List K) → AreMerging R out (k ∷ ks) left total → out2 ≡ (out ++ before_key R k left) ++ k ∷ [] → left2 ≡ from_key R k left → AreMerging R out2 ks left2 total
  merging_next out out2 left left2 k ks total m is rest =
      rw (is, rest) (record {
        so_far = merge_next R o out left k ks total m.rises m.rises_keys m.apart m.so_far;
        rises = rises_from R o k left m.rises;
        rises_keys = tail_rises R o k ks m.rises_keys;
        apart = apart_from R o k ks left m.apart.1;
      })

  pub merging_all : (out left total : List K) → AreMerging R out [] left total → out ++ left ≡ total
  unfolding put_each
  merging_all out left total m = m.so_far

  pub passing_all : (keys rows : List K) → IsStrictlySortedBy R keys → IsStrictlySortedBy R rows → ArePassing R keys rows rows
  passing_all keys rows s t = record { rises = t; rises_keys = s; same = each keys }
    where
      each : (qs : List K) → AllByRecursion (λ q. has R rows q ≡ has R rows q) qs
      each [] = tt
      each (q ∷ qs) = (refl, each qs)

  pub passing_next : (k : K) (ks rows left new : List K) → ArePassing R (k ∷ ks) rows left → IsStrictlySortedBy R new → ((q : K) → R k q ≡ Less → has R new q ≡ has R left q) → ArePassing R ks rows new
  unfolding IsStrictlySortedBy
  passing_next k ks rows left new p s later = record { rises = s; rises_keys = p.rises_keys.1; same = each ks p.rises_keys.0 p.same.1 }
    where
      each : (qs : List K) → AllByRecursion (λ q. R k q ≡ Less) qs → AllByRecursion (λ q. has R left q ≡ has R rows q) qs → AllByRecursion (λ q. has R new q ≡ has R rows q) qs
      each [] a b = tt
      each (q ∷ qs) a b = (later q a.0 ∙ b.0, each qs a.1 b.1)
