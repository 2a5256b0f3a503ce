-- Rows of which the rising ones stand in front, and keys that are found among rows.
use Rattle.std.proofs.Common.{◌≡◌, ℕ, ◌+◌, ◌-◌, ◌<◌, ◌≤◌, Bool, true, false, not, ◌||◌, cond, List, [], ◌∷◌, ◌++◌, filter, length, get_or, take, set, swap, refl, sym, ap, ◌∙◌, arith}
use Rattle.std.specs.List.{list_any, SwappedAt}
use Rattle.std.specs.List.Sorted.{IsStrictlySortedBy}
use Rattle.std.specs.Ordering.{eq_by_cmp, is_eq, is_lt}
use Rattle.std.specs.Cmp.{IsTotalOrder, Equal-is}
use Rattle.std.specs.declared.cmp.Ordering.{Ordering}
use Rattle.std.proofs.lemmas.List.{take_more, take-set-le}
use Rattle.std.proofs.lemmas.List.Edits.{swap_is, length-swap}
use Rattle.std.proofs.lemmas.Bool.{false≢true}
use Rattle.tca_join.specs.Sets.{has}
use Rattle.tca_join.proofs.Sets.{has-append}
use Rattle.tca_log.specs.Rows.Ordered.{from_key}
use Rattle.tca_log.proofs.OrderedRows.Rising.{rises_more}

or_right : (a b : Bool) → b ≡ true → (a || b) ≡ true
or_right true b h = refl
or_right false b h = h

or_more : (a b c : Bool) → (b ≡ true → c ≡ true) → (a || b) ≡ true → (a || c) ≡ true
or_more true b c f h = refl
or_more false b c f h = f h

or_cases : {P : Type 0} (a b : Bool) → (a ≡ true → P) → (b ≡ true → P) → (a || b) ≡ true → P
or_cases true b f g h = f refl
or_cases false b f g h = g h

-- an exchange with a later element leaves those in front
take_swapped : {K : Type 0} (xs : List K) (i j : ℕ) (d : K) → i ≤ j → j < length xs → take i (swap xs i j) ≡ take i xs
take_swapped xs i j d h p =
    ap (take i) (sym (swap_is xs i j d (omega (arith, h, p)) p))
    ∙ take-set-le i (set xs i (get_or xs j d)) j (get_or xs i d) h
    ∙ take-set-le i xs i (get_or xs j d) (omega arith)

module _ {K : Type 0} (R : K → K → Ordering) (o : IsTotalOrder R) where
  -- a row that comes after the rising ones is put behind them
  pub rises_swapped : (xs ys : List K) (i j : ℕ) (x y : K) → 0 < i → i ≤ j → j < length xs → ys ≡ swap xs i j → SwappedAt xs ys i j → x ≡ get_or xs (i - 1) x → y ≡ get_or xs j y → is_lt (R x y) ≡ true → IsStrictlySortedBy R (take i xs) → IsStrictlySortedBy R (take (i + 1) ys)
  rises_swapped xs ys i j x y some h p is moved before at less rises =
      let long : length ys ≡ length xs = ap length is ∙ length-swap xs i j in
      let front : take i ys ≡ take i xs = ap (take i) is ∙ take_swapped xs i j x h p in
      let left : get_or ys (i - 1) x ≡ get_or xs (i - 1) x = moved.2 (i - 1) x (λ e. absurd (omega (arith, e, some))) (λ e. absurd (omega (arith, e, some, h))) in
      rises_more R o ys i x y some (omega (arith, long, h, p)) (before ∙ sym left) (at ∙ sym (moved.0 y)) less (rw front rises)

  -- rows that are left are some of all
  pub within_from : (k : K) (xs : List K) (q : K) → has R (from_key R k xs) q ≡ true → has R xs q ≡ true
  unfolding from_key has
  within_from k [] q h = h
  within_from k (x ∷ xs) q h =
      elim (is_lt (R x k)) as (λ b. list_any (eq_by_cmp R q) (cond (not b) (x ∷ filter (λ y. not (is_lt (R y k))) xs) (filter (λ y. not (is_lt (R y k))) xs)) ≡ true → (eq_by_cmp R q x || list_any (eq_by_cmp R q) xs) ≡ true) [
        | true ↦ λ h. or_right (eq_by_cmp R q x) (list_any (eq_by_cmp R q) xs) (within_from k xs q h)
        | false ↦ λ h. or_more (eq_by_cmp R q x) (list_any (eq_by_cmp R q) (filter (λ y. not (is_lt (R y k))) xs)) (list_any (eq_by_cmp R q) xs) (within_from k xs q) h
      ] h

  -- what ties with a member is a member
  has_tied : (q k : K) → eq_by_cmp R q k ≡ true → (xs : List K) → has R xs q ≡ has R xs k
  unfolding has
  has_tied q k e [] = refl
  has_tied q k e (x ∷ xs) = λ i. is_eq (o.congr q k x ((Equal-is (R q k)).0 e) i) || has_tied q k e xs i

  -- the keys are among the rows up to one more
  pub found_more : (keys rows left : List K) (i : ℕ) (key : K) → i < length keys → key ≡ get_or keys i key → ((q : K) → has R left q ≡ true → has R rows q ≡ true) → ((q : K) → has R (take i keys) q ≡ true → has R rows q ≡ true) → has R left key ≡ true → (q : K) → has R (take (i + 1) keys) q ≡ true → has R rows q ≡ true
  unfolding has
  found_more keys rows left i key h is within found there q now =
      let parts : has R (take (i + 1) keys) q ≡ (has R (take i keys) q || (eq_by_cmp R q key || false)) =
      ap (λ l. has R l q) (take_more keys i key h ∙ ap (λ k. take i keys ++ k ∷ []) (sym is)) ∙ has-append R o (take i keys) (key ∷ []) q in
      or_cases (has R (take i keys) q) (eq_by_cmp R q key || false) (found q) (or_cases (eq_by_cmp R q key) false (λ e. has_tied q key e rows ∙ within key there) (λ e. absurd (false≢true e))) (sym parts ∙ now)
