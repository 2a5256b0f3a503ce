-- What a binary search in a rising list tells of the set.
use Rattle.std.proofs.Common.{Bor, ◌≡◌, ℕ, zero, suc, ◌<◌, ◌-◌, true, false, ◌||◌, cond, List, [], ◌∷◌, ◌++◌, length, get_or, refl, sym, ap, subst, ◌∙◌, arith}
use Rattle.std.specs.Prelude.{slice_get, option_copied, Option, Some, None, is_some, Result, MatchResult, Ok, Err, OnOk, OnErr, IfOk, IfErr}
use Rattle.std.specs.List.{insert, remove, list_any, AllByRecursion, HoldsAt}
use Rattle.std.specs.List.Sorted.{IsStrictlySortedBy, IsSearchInRange, IsBinarySearchResult}
use Rattle.std.specs.Ordering.{eq_by_cmp, is_eq, is_lt}
use Rattle.std.specs.Cmp.{IsTotalOrder}
use Rattle.std.specs.declared.cmp.Ordering.{Ordering}
use Rattle.std.specs.declared.cmp.Ordering.TheVariants.{Less, Equal, Greater}
use Rattle.std.proofs.lemmas.Bool.{or_right}
use Rattle.std.proofs.lemmas.List.{append-nil}
use Rattle.tca_join.specs.Sets.{by_order, has, put}
use Rattle.tca_join.proofs.Search.{gap_at, searchable}
use Rattle.tca_log.specs.Rows.Ordered.{without, rank, tied}
use Rattle.tca_log.proofs.OrderedRows.Parts.{turned, lt_less, above_less, below_tied, without_at, without_absent, has_above, has_below, put_past}
use Rattle.tca_log.proofs.OrderedRows.Ranks.{rank_at, rank_gap}

module _ {K : Type 0} (R : K → K → Ordering) (o : IsTotalOrder R) where
  -- where one that ties is there, nothing changes
  pub put_there : (k : K) (xs : List K) → IsStrictlySortedBy R xs → has R xs k ≡ true → put R k xs ≡ xs
  unfolding has put IsStrictlySortedBy
  put_there k [] s h = absurd cc
  put_there k (x ∷ xs) s h =
      elim (R k x) as (λ r. R k x ≡ r → (is_eq r || list_any (eq_by_cmp R k) xs) ≡ true → by_order r (k ∷ x ∷ xs) (x ∷ xs) (x ∷ put R k xs) ≡ x ∷ xs) [
        | Less ↦ λ e t. let none = has_above R o k xs (above_less R o k x xs e s.0) in absurd cc
        | Equal ↦ λ e t. refl
        | Greater ↦ λ e t. ap (λ (l : List K). x ∷ l) (put_there k xs s.1 t)
      ] refl h

  pub has_at : (xs : List K) (i : ℕ) (k : K) → i < length xs → HoldsAt (λ y. R y k ≡ Equal) xs i → has R xs k ≡ true
  unfolding has
  has_at [] i k h at = absurd (omega arith)
  has_at (x ∷ xs) zero k h at = rw (turned R o x k Equal (at x)) refl
  has_at (x ∷ xs) (suc i) k h at = or_right _ _ (has_at xs i k (omega arith) at)

  -- the one that ties, by its index
  pub tied_at : (k : K) (xs : List K) (i : ℕ) (d : K) → IsStrictlySortedBy R xs → i < length xs → HoldsAt (λ y. R y k ≡ Equal) xs i → tied R k xs ≡ Some (get_or xs i d)
  unfolding tied IsStrictlySortedBy
  tied_at k [] i d s h at = absurd (omega arith)
  tied_at k (x ∷ xs) zero d s h at = rw (turned R o x k Equal (at x)) refl
  tied_at k (x ∷ xs) (suc i) d s h at = rw (turned R o x k Less (below_tied R o k x xs i s.0 (omega arith) at)) (tied_at k xs i d s.1 (omega arith) at)

  pub has_tied : (k : K) (xs : List K) → has R xs k ≡ is_some (tied R k xs)
  unfolding has tied
  has_tied k [] = refl
  has_tied k (x ∷ xs) =
      elim (eq_by_cmp R k x) as (λ b. (b || list_any (eq_by_cmp R k) xs) ≡ is_some (cond b (Some x) (tied R k xs))) [ true ↦ refl | false ↦ has_tied k xs ]

  pub tied_is : (k : K) (xs : List K) (x : K) → tied R k xs ≡ Some x → eq_by_cmp R k x ≡ true
  unfolding tied
  tied_is k [] x h = absurd cc
  tied_is k (y ∷ xs) x h =
      elim (eq_by_cmp R k y) as (λ b. eq_by_cmp R k y ≡ b → cond b (Some y) (tied R k xs) ≡ Some x → eq_by_cmp R k x ≡ true) [
        | true ↦ λ e g. let same : y ≡ x = cc in subst (λ z. eq_by_cmp R k z ≡ true) same e
        | false ↦ λ e g. tied_is k xs x g
      ] refl h

  pub all_tied : (P : K → Type 0) (k : K) (xs : List K) (x : K) → AllByRecursion P xs → tied R k xs ≡ Some x → P x
  unfolding tied
  all_tied P k [] x p h = absurd cc
  all_tied P k (y ∷ xs) x p h =
      elim (eq_by_cmp R k y) as (λ b. cond b (Some y) (tied R k xs) ≡ Some x → P x) [
        | true ↦ λ g. let same : y ≡ x = cc in subst P same p.0
        | false ↦ λ g. all_tied P k xs x p.1 g
      ] h

  pub tied_absent : (k : K) (xs : List K) → has R xs k ≡ false → tied R k xs ≡ None
  unfolding has tied
  tied_absent k [] h = refl
  tied_absent k (x ∷ xs) h =
      elim (eq_by_cmp R k x) as (λ b. (b || list_any (eq_by_cmp R k) xs) ≡ false → cond b (Some x) (tied R k xs) ≡ None) [ true ↦ λ e. absurd cc | false ↦ λ e. tied_absent k xs e ] h

  -- what a binary search tells
  pub record IsFound (xs : List K) (k : K) (result : Result ℕ ℕ) : Type 0 where
    pub tie : IfOk result (λ at. tied R k xs ≡ Some (get_or xs at k))
    pub there : OnOk result (put R k xs ≡ xs)
    pub gone : IfOk result (λ at. without R k xs ≡ remove xs at)
    pub none : OnErr result (tied R k xs ≡ None)
    pub gap : IfErr result (λ at. put R k xs ≡ insert xs at k)
    pub same : OnErr result (without R k xs ≡ xs)
    pub rank : MatchResult result (λ at. at ≡ rank R k xs) (λ at. at ≡ rank R k xs)

  pub searched : (xs : List K) (k : K) (result : Result ℕ ℕ) → IsStrictlySortedBy R xs → IsSearchInRange result (length xs) → IsBinarySearchResult (λ y. R y k) xs result → IsFound xs k result
  searched xs k (Ok i) s bound at = record { tie = tied_at k xs i k s bound at; there = put_there k xs s (has_at xs i k bound at); gone = without_at R o k xs i s bound at; none = tt; gap = tt; same = tt; rank = rank_at R o k xs i s bound at }
  searched xs k (Err i) s bound part =
      let parts = part (searchable R o xs k s) in
      let gap = gap_at R o xs i k bound parts in
      record { tie = tt; there = tt; gone = tt; none = tied_absent k xs gap.0; gap = gap.1; same = without_absent R o k xs gap.0; rank = rank_gap R o k xs i bound parts }

  pub put_none : (k : K) → put R k [] ≡ k ∷ []
  unfolding put
  put_none k = refl

  pub tied_none : (k : K) → tied R k [] ≡ None
  unfolding tied
  tied_none k = refl

  -- a list whose last member comes before one
  below_last : (k x : K) (xs : List K) → IsStrictlySortedBy R xs → Some x ≡ slice_get xs (length xs - 1) → R x k ≡ Less → AllByRecursion (λ y. R y k ≡ Less) xs
  unfolding IsStrictlySortedBy
  below_last k x [] s at e = tt
  below_last k x (y ∷ []) s at e = let same : x ≡ y = cc in (subst (λ z. R z k ≡ Less) same e, tt)
  below_last k x (y ∷ z ∷ zs) s at e =
      let one : suc (length zs) - 1 ≡ length zs = omega arith in
      let two : suc (suc (length zs)) - 1 ≡ suc (length zs) = omega arith in
      let rest = below_last k x (z ∷ zs) s.1 (at ∙ ap (slice_get (y ∷ z ∷ zs)) two ∙ sym (ap (slice_get (z ∷ zs)) one)) e in
      (o.trans y z k s.0.0 rest.0, rest)

  pub after_last : (k x : K) (xs : List K) → IsStrictlySortedBy R xs → Some x ≡ slice_get xs (length xs - 1) → is_lt (R x k) ≡ true → (put R k xs ≡ xs ++ k ∷ []) × (tied R k xs ≡ None)
  after_last k x xs s at e =
      let below = below_last k x xs s at (lt_less (R x k) e) in
      (ap (put R k) (sym (append-nil xs)) ∙ put_past R o k xs [] below ∙ ap (λ (l : List K). xs ++ l) (put_none k), tied_absent k xs (has_below R o k xs below))

  pub after_none : (k : K) (xs : List K) → None ≡ slice_get xs (length xs - 1) → (put R k xs ≡ xs ++ k ∷ []) × (tied R k xs ≡ None)
  after_none k [] at = (put_none k, tied_none k)
  after_none k (x ∷ xs) at = absurd (some_last xs x at)
    where
      some_last : (ys : List K) (y : K) → None ≡ slice_get (y ∷ ys) (length (y ∷ ys) - 1) → ⊥
      some_last [] y at = cc
      some_last (z ∷ zs) y at =
          let one : suc (length zs) - 1 ≡ length zs = omega arith in
          let two : suc (suc (length zs)) - 1 ≡ suc (length zs) = omega arith in
          some_last zs z (at ∙ ap (slice_get (y ∷ z ∷ zs)) two ∙ sym (ap (slice_get (z ∷ zs)) one))

pub copied_some : {T : Type 0} → (o : Option (Bor T)) → is_some o ≡ is_some (option_copied o)
copied_some (Some x) = refl
copied_some None = refl
