-- Many members that are put or taken away.
use Rattle.std.proofs.Common.{◌≡◌, ◌+◌, ◌<◌, ◌≤◌, Bool, true, false, not, ◌&&◌, ◌||◌, cond, List, [], ◌∷◌, ◌++◌, length, filter, refl, sym, ap, ◌∙◌, arith, append_assoc}
use Rattle.std.proofs.lemmas.Bool.{false≢true}
use Rattle.std.specs.List.{AllByRecursion}
use Rattle.std.specs.List.Sorted.{IsStrictlySortedBy}
use Rattle.std.specs.Ordering.{eq_by_cmp, is_eq, ordering_reverse}
use Rattle.std.specs.Cmp.{IsTotalOrder, tied_itself, eq_by_cmp_equiv}
use Rattle.std.specs.declared.cmp.Ordering.{Ordering}
use Rattle.std.specs.declared.cmp.Ordering.TheVariants.{Less, Equal, Greater}
use Rattle.std.proofs.lemmas.List.{append-nil}
use Rattle.std.proofs.lemmas.List.Kept.{IsStrictlySortedBy-filter}
use Rattle.tca_join.specs.Sets.{by_order, has, put}
use Rattle.tca_join.proofs.Sets.{has-put, rises_put, all_put, or_swap}
use Rattle.tca_log.specs.Rows.Ordered.{without, without_each, put_each, AreApart}
use Rattle.tca_log.proofs.OrderedRows.Parts.{or_parts, put_past, without_absent}
use Rattle.tca_log.proofs.OrderedRows.Positions.{length_put}

filter_filter : {K : Type 0} (p q : K → Bool) (xs : List K) → filter p (filter q xs) ≡ filter (λ x. q x && p x) xs
filter_filter p q [] = refl
filter_filter p q (x ∷ xs) =
    elim (q x) as (λ b. filter p (cond b (x ∷ filter q xs) (filter q xs)) ≡ cond (b && p x) (x ∷ filter (λ y. q y && p y) xs) (filter (λ y. q y && p y) xs)) [
      | true ↦ (λ i. cond (p x) (x ∷ filter_filter p q xs i) (filter_filter p q xs i))
      | false ↦ filter_filter p q xs
    ]

-- two tests that answer alike keep the same
filter_alike : {K : Type 0} (p q : K → Bool) (xs : List K) → ((x : K) → p x ≡ q x) → filter p xs ≡ filter q xs
filter_alike p q [] h = refl
filter_alike p q (x ∷ xs) h = (λ i. cond (h x i) (x ∷ filter_alike p q xs h i) (filter_alike p q xs h i))

pub filter_all : {K : Type 0} (p : K → Bool) (xs : List K) → AllByRecursion (λ x. p x ≡ true) xs → filter p xs ≡ xs
filter_all p [] h = refl
filter_all p (x ∷ xs) h = rw (h.0) (ap (λ (l : List _). x ∷ l) (filter_all p xs h.1))

module _ {K : Type 0} (R : K → K → Ordering) (o : IsTotalOrder R) where
  -- what a test leaves out changes nothing of what it keeps
  pub filter_put_out : (p : K → Bool) (k : K) (xs : List K) → p k ≡ false → filter p (put R k xs) ≡ filter p xs
  unfolding put
  filter_put_out p k [] h = rw h refl
  filter_put_out p k (x ∷ xs) h =
      elim (R k x) as (λ r. filter p (by_order r (k ∷ x ∷ xs) (x ∷ xs) (x ∷ put R k xs)) ≡ filter p (x ∷ xs)) [
        | Less ↦ rw h refl
        | Equal ↦ refl
        | Greater ↦ (λ i. cond (p x) (x ∷ filter_put_out p k xs h i) (filter_put_out p k xs h i))
      ]

  pub has-put_each : (ks xs : List K) (q : K) → has R (put_each R ks xs) q ≡ (has R ks q || has R xs q)
  unfolding put_each has
  has-put_each [] xs q = refl
  has-put_each (k ∷ ks) xs q =
      has-put_each ks (put R k xs) q ∙ ap (λ b. has R ks q || b) (has-put R o k xs q) ∙ or_swap (has R ks q) (eq_by_cmp R q k) (has R xs q) ∙ or_first (eq_by_cmp R q k) (has R ks q) (has R xs q)
    where
      or_first : (a b c : Bool) → (a || (b || c)) ≡ ((a || b) || c)
      or_first true b c = refl
      or_first false b c = refl

  pub rises_put_each : (ks xs : List K) → IsStrictlySortedBy R xs → IsStrictlySortedBy R (put_each R ks xs)
  unfolding put_each
  rises_put_each [] xs s = s
  rises_put_each (k ∷ ks) xs s = rises_put_each ks (put R k xs) (rises_put R o k xs s)

  pub all_put_each : (P : K → Type 0) (ks xs : List K) → AllByRecursion P ks → AllByRecursion P xs → AllByRecursion P (put_each R ks xs)
  unfolding put_each
  all_put_each P [] xs h g = g
  all_put_each P (k ∷ ks) xs h g = all_put_each P ks (put R k xs) h.1 (all_put R o P k xs h.0 g)

  -- after one of them was put, the others are still apart, where none of them ties with it
  pub still_apart : (k : K) (ks xs : List K) → AllByRecursion (λ y. R k y ≡ Less) ks → AreApart R ks xs → AreApart R ks (put R k xs)
  still_apart k [] xs s h = tt
  still_apart k (j ∷ ks) xs s h =
      (has-put R o k xs j ∙ ap (λ r. is_eq r || has R xs j) (o.antisymm j k ∙ ap ordering_reverse s.0) ∙ h.0, still_apart k ks xs s.1 h.1)

  pub without_each_after : (ks xs : List K) (k : K) → without_each R ks (without R k xs) ≡ without_each R (k ∷ ks) xs
  unfolding without without_each has
  without_each_after ks xs k =
      filter_filter (λ x. not (has R ks x)) (λ x. not (eq_by_cmp R k x)) xs
      ∙ filter_alike (λ x. not (eq_by_cmp R k x) && not (has R ks x)) (λ x. not (eq_by_cmp R x k || has R ks x)) xs (λ x. ap (λ b. not b && not (has R ks x)) ((eq_by_cmp_equiv o).symm k x) ∙ and_not (eq_by_cmp R x k) (has R ks x))
    where
      and_not : (a b : Bool) → (not a && not b) ≡ not (a || b)
      and_not true b = refl
      and_not false b = refl

  pub without_none : (xs : List K) → without_each R [] xs ≡ xs
  unfolding without_each has
  without_none [] = refl
  without_none (x ∷ xs) = ap (λ (l : List K). x ∷ l) (without_none xs)

  pub members : (ks : List K) → AllByRecursion (λ k. has R ks k ≡ true) ks
  unfolding has
  members [] = tt
  members (k ∷ ks) = (rw (tied_itself o k) refl, more ks (members ks))
    where
      or_true : (b : Bool) → (b || true) ≡ true
      or_true true = refl
      or_true false = refl

      more : (es : List K) → AllByRecursion (λ e. has R ks e ≡ true) es → AllByRecursion (λ e. has R (k ∷ ks) e ≡ true) es
      more [] h = tt
      more (e ∷ es) h = (ap (λ b. eq_by_cmp R e k || b) h.0 ∙ or_true (eq_by_cmp R e k), more es h.1)

  none_ties : (js : List K) (x : K) (xs : List K) → AreApart R js (x ∷ xs) → has R js x ≡ false
  unfolding has
  none_ties [] x xs g = refl
  none_ties (j ∷ js) x xs g =
      ap (λ b. b || has R js x) ((eq_by_cmp_equiv o).symm x j ∙ (or_parts (eq_by_cmp R j x) (has R xs j) g.0).0) ∙ none_ties js x xs g.1

  apart_less : (js : List K) (x : K) (xs : List K) → AreApart R js (x ∷ xs) → AreApart R js xs
  unfolding has
  apart_less [] x xs g = tt
  apart_less (j ∷ js) x xs g = ((or_parts (eq_by_cmp R j x) (has R xs j) g.0).1, apart_less js x xs g.1)

  apart_absent : (ks xs : List K) → AreApart R ks xs → AllByRecursion (λ x. not (has R ks x) ≡ true) xs
  apart_absent ks [] h = tt
  apart_absent ks (x ∷ xs) h = (ap not (none_ties ks x xs h), apart_absent ks xs (apart_less ks x xs h))

  pub length-put_each : (ks xs : List K) → IsStrictlySortedBy R ks → AreApart R ks xs → length (put_each R ks xs) ≡ length xs + length ks
  unfolding put_each IsStrictlySortedBy
  length-put_each [] xs s h = omega arith
  length-put_each (k ∷ ks) xs s h = omega (arith, length-put_each ks (put R k xs) s.1 (still_apart k ks xs s.0 h.1), length_put R o k xs h.0)

  -- a rising list, put after what is below it
  put_all_past : (ks xs : List K) → IsStrictlySortedBy R ks → AllByRecursion (λ k. AllByRecursion (λ x. R x k ≡ Less) xs) ks → put_each R ks xs ≡ xs ++ ks
  unfolding put_each IsStrictlySortedBy put
  put_all_past [] xs s h = sym (append-nil xs)
  put_all_past (k ∷ ks) xs s h =
      ap (put_each R ks) (ap (put R k) (sym (append-nil xs)) ∙ put_past R o k xs [] h.0) ∙ put_all_past ks (xs ++ k ∷ []) s.1 (more ks s.0 h.1) ∙ append_assoc xs (k ∷ []) ks
    where
      snoc : (j : K) (ys : List K) → AllByRecursion (λ x. R x j ≡ Less) ys → R k j ≡ Less → AllByRecursion (λ x. R x j ≡ Less) (ys ++ k ∷ [])
      snoc j [] g l = (l, tt)
      snoc j (y ∷ ys) g l = (g.0, snoc j ys g.1 l)

      more : (js : List K) → AllByRecursion (λ j. R k j ≡ Less) js → AllByRecursion (λ j. AllByRecursion (λ x. R x j ≡ Less) xs) js → AllByRecursion (λ j. AllByRecursion (λ x. R x j ≡ Less) (xs ++ k ∷ [])) js
      more [] a b = tt
      more (j ∷ js) a b = (snoc j xs b.0 a.0, more js a.1 b.1)

  pub put_each_none : (ks : List K) → IsStrictlySortedBy R ks → put_each R ks [] ≡ ks
  put_each_none ks s = put_all_past ks [] s (nothing ks)
    where
      nothing : (js : List K) → AllByRecursion (λ j. AllByRecursion (λ x. R x j ≡ Less) []) js
      nothing [] = tt
      nothing (j ∷ js) = (tt, nothing js)

  pub apart_none : (ks : List K) → AreApart R ks []
  unfolding has
  apart_none [] = tt
  apart_none (k ∷ ks) = (refl, apart_none ks)

-- all are being put into what was there: some were, and the rest is left
pub record ArePutting {K : Type 0} (R : K → K → Ordering) (all was now left : List K) : Type 0 where
  pub goes_on : put_each R left now ≡ put_each R all was
  pub undone : without_each R all now ≡ was
  pub members : AllByRecursion (λ k. has R all k ≡ true) left
  pub rises : IsStrictlySortedBy R left
  pub apart : AreApart R left now
  pub few : length now + length left ≤ 4194304

module _ {K : Type 0} (R : K → K → Ordering) (o : IsTotalOrder R) where
  pub putting_none : (all was : List K) → IsStrictlySortedBy R all → AreApart R all was → length was + length all ≤ 4194304 → ArePutting R all was was all
  unfolding without_each
  putting_none all was s a f = record {
    goes_on = refl;
    undone = filter_all (λ x. not (has R all x)) was (apart_absent R o all was a);
    members = members R o all;
    rises = s;
    apart = a;
    few = f;
  }

  pub putting_more : (all was now : List K) (k : K) (left : List K) → ArePutting R all was now (k ∷ left) → ArePutting R all was (put R k now) left
  unfolding put_each without_each IsStrictlySortedBy
  putting_more all was now k left p = record {
    goes_on = p.goes_on;
    undone = filter_put_out R o (λ x. not (has R all x)) k now (ap not p.members.0) ∙ p.undone;
    members = p.members.1;
    rises = p.rises.1;
    apart = still_apart R o k left now p.rises.0 p.apart.1;
    few = omega (arith, length_put R o k now p.apart.0, p.few);
  }

  pub putting_new : (all was now : List K) (k : K) (left : List K) → ArePutting R all was now (k ∷ left) → (has R now k ≡ false) × (length now < 4194304)
  putting_new all was now k left p = (p.apart.0, omega (arith, p.few))

  -- where one is left to put, there are some
  pub putting_some : (all was now : List K) (k : K) (left : List K) → ArePutting R all was now (k ∷ left) → 0 < length all
  unfolding has
  putting_some [] was now k left p = absurd (false≢true p.members.0)
  putting_some (x ∷ xs) was now k left p = omega arith

  pub putting_all : (all was now : List K) → ArePutting R all was now [] → now ≡ put_each R all was
  unfolding put_each
  putting_all all was now p = p.goes_on

  -- a row that was not there takes nothing away
  pub without_each_past : (k : K) (left now : List K) → has R now k ≡ false → without_each R left now ≡ without_each R (k ∷ left) now
  without_each_past k left now h = ap (without_each R left) (sym (without_absent R o k now h)) ∙ without_each_after R o left now k

  pub putting_nothing : (ks was : List K) → length ks ≡ 0 → was ≡ put_each R ks was
  unfolding put_each
  putting_nothing [] was h = refl
  putting_nothing (k ∷ ks) was h = absurd (omega arith)

  -- a row that ties with one of these, and one that ties with none
  pub beyond_held : (ks : List K) (k : K) (left : List K) → has R ks k ≡ true → without_each R ks (k ∷ left) ≡ without_each R ks left
  unfolding without_each
  beyond_held ks k left h = rw h refl

  pub beyond_new : (ks : List K) (k : K) (left : List K) → has R ks k ≡ false → without_each R ks (k ∷ left) ≡ k ∷ without_each R ks left
  unfolding without_each
  beyond_new ks k left h = rw h refl

  pub beyond_none : (ks : List K) → without_each R ks [] ≡ []
  unfolding without_each
  beyond_none ks = refl

  pub beyond_rises : (ks xs : List K) → IsStrictlySortedBy R xs → IsStrictlySortedBy R (without_each R ks xs)
  unfolding without_each
  beyond_rises ks xs s = IsStrictlySortedBy-filter R (λ x. not (has R ks x)) xs s

  pub beyond_shorter : (ks xs : List K) → length (without_each R ks xs) ≤ length xs
  unfolding without_each
  beyond_shorter ks [] = omega arith
  beyond_shorter ks (x ∷ xs) = elim (has R ks x) as (λ b. length (cond (not b) (x ∷ filter (λ y. not (has R ks y)) xs) (filter (λ y. not (has R ks y)) xs)) ≤ length (x ∷ xs)) [ true ↦ omega (arith, beyond_shorter ks xs) | false ↦ omega (arith, beyond_shorter ks xs) ]

  -- none is lost where as many are left
  pub beyond_whole : (ks xs : List K) → length xs ≡ length (without_each R ks xs) → without_each R ks xs ≡ xs
  unfolding without_each
  beyond_whole ks [] = λ e. refl
  beyond_whole ks (x ∷ xs) = elim (has R ks x) as (λ b. length (x ∷ xs) ≡ length (cond (not b) (x ∷ filter (λ y. not (has R ks y)) xs) (filter (λ y. not (has R ks y)) xs)) → cond (not b) (x ∷ filter (λ y. not (has R ks y)) xs) (filter (λ y. not (has R ks y)) xs) ≡ x ∷ xs) [
    | true ↦ λ e. absurd (omega (arith, e, beyond_shorter ks xs))
    | false ↦ λ e. ap (λ (l : List K). x ∷ l) (beyond_whole ks xs (omega (arith, e)))
  ]

  pub beyond_apart : (ks xs : List K) → AreApart R (without_each R ks xs) ks
  unfolding without_each
  beyond_apart ks [] = tt
  beyond_apart ks (x ∷ xs) =
      elim (has R ks x) as (λ b. has R ks x ≡ b → AreApart R (cond (not b) (x ∷ filter (λ y. not (has R ks y)) xs) (filter (λ y. not (has R ks y)) xs)) ks) [ true ↦ λ e. beyond_apart ks xs | false ↦ λ e. (e, beyond_apart ks xs) ] refl

  put_out : (ks ds ys : List K) → AllByRecursion (λ d. has R ks d ≡ true) ds → filter (λ x. not (has R ks x)) (put_each R ds ys) ≡ filter (λ x. not (has R ks x)) ys
  unfolding put_each
  put_out ks [] ys h = refl
  put_out ks (d ∷ ds) ys h = put_out ks ds (put R d ys) h.1 ∙ filter_put_out R o (λ x. not (has R ks x)) d ys (ap not h.0)

  -- those that were put, taken away again
  pub undone_all : (ks xs : List K) → AreApart R ks xs → without_each R ks (put_each R ks xs) ≡ xs
  unfolding without_each
  undone_all ks xs a = put_out ks ks xs (members R o ks) ∙ filter_all (λ x. not (has R ks x)) xs (apart_absent R o ks xs a)
