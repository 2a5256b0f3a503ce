-- How many members come before one.
use Rattle.std.proofs.Common.{◌≡◌, ℕ, zero, suc, ◌+◌, ◌-◌, ◌<◌, ◌≤◌, false, true, not, cond, List, [], ◌∷◌, ◌++◌, length, get_or, take, drop, filter, refl, sym, ap, ◌∙◌, arith, length-append, add-one}
use Rattle.std.proofs.Math.Seq.{drop-cons}
use Rattle.std.specs.List.{AllByRecursion, HoldsAt}
use Rattle.std.specs.List.Sorted.{IsStrictlySortedBy, IsPartitionPoint}
use Rattle.std.specs.Ordering.{is_lt, is_eq, eq_by_cmp, ordering_reverse}
use Rattle.std.specs.Cmp.{IsTotalOrder, alike_right}
use Rattle.std.proofs.lemmas.List.Elements.{filter-append}
use Rattle.std.specs.declared.cmp.Ordering.{Ordering}
use Rattle.std.specs.declared.cmp.Ordering.TheVariants.{Less, Equal, Greater}
use Rattle.tca_join.specs.Sets.{by_order, put}
use Rattle.tca_log.specs.inside.Chunks.{joined, AreChunks, IsPosition}
use Rattle.tca_log.specs.Rows.Ordered.{rank, without}
use Rattle.tca_log.proofs.OrderedRows.Parts.{above_tied, above_less, below_tied}
use Rattle.tca_log.proofs.OrderedRows.Positions.{joined_at, below_first, above_place}

module _ {K : Type 0} (R : K → K → Ordering) (o : IsTotalOrder R) where
  -- all members come before k, or none does
  rank_all : (k : K) (xs : List K) → AllByRecursion (λ x. R x k ≡ Less) xs → rank R k xs ≡ length xs
  unfolding rank
  rank_all k [] h = refl
  rank_all k (x ∷ xs) h = rw (h.0) (ap suc (rank_all k xs h.1))

  rank_above : (k : K) (xs : List K) → AllByRecursion (λ x. R k x ≡ Less) xs → rank R k xs ≡ 0
  unfolding rank
  rank_above k [] h = refl
  rank_above k (x ∷ xs) h = rw (o.antisymm x k ∙ ap ordering_reverse (h.0)) (rank_above k xs h.1)

  rank_append : (k : K) (xs ys : List K) → rank R k (xs ++ ys) ≡ rank R k xs + rank R k ys
  unfolding rank
  rank_append k xs ys =
      ap length (filter-append (λ x. is_lt (R x k)) xs ys) ∙ length-append (filter (λ x. is_lt (R x k)) xs) (filter (λ x. is_lt (R x k)) ys)

  pub rank_at : (k : K) (xs : List K) (i : ℕ) → IsStrictlySortedBy R xs → i < length xs → HoldsAt (λ y. R y k ≡ Equal) xs i → i ≡ rank R k xs
  unfolding rank IsStrictlySortedBy
  rank_at k [] i s h at = absurd (omega arith)
  rank_at k (x ∷ xs) zero s h at = rw (at x) (sym (rank_above k xs (above_tied R o k x xs (at x) s.0)))
  rank_at k (x ∷ xs) (suc i) s h at =
      let lower : R x k ≡ Less = below_tied R o k x xs i s.0 (omega arith) at in
      rw lower (ap suc (rank_at k xs i s.1 (omega arith) at))

  pub rank_gap : (k : K) (xs : List K) (i : ℕ) → i ≤ length xs → IsPartitionPoint (λ y. R y k ≡ Less) (λ y. R y k ≡ Greater) xs i → i ≡ rank R k xs
  unfolding rank
  rank_gap k [] i h gap = omega arith
  rank_gap k (x ∷ xs) zero h gap =
      rw (gap.1 0 x (omega arith) (omega arith)) (rank_gap k xs zero (omega arith) (λ j d m l. absurd (omega arith), λ j d m l. gap.1 (suc j) d (omega arith) (omega arith)))
  rank_gap k (x ∷ xs) (suc i) h gap =
      rw (gap.0 0 x (omega arith) (omega arith)) (ap suc (rank_gap k xs i (omega arith) (λ j d m l. gap.0 (suc j) d (omega arith) (omega arith), λ j d m l. gap.1 (suc j) d (omega arith) (omega arith))))

  pub rank_place : (k : K) (cs : List (List K)) (i : ℕ) → AreChunks R cs → IsPosition R cs k i → rank R k (joined cs) ≡ length (joined (take i cs)) + rank R k (get_or cs i [])
  rank_place k cs i a p =
      let low = joined (take i cs) in
      let here = get_or cs i [] in
      let high = joined (drop (suc i) cs) in
      let whole : rank R k (joined cs) ≡ rank R k (low ++ (here ++ high)) = ap (rank R k) (joined_at cs i p.inside) in
      omega (arith, whole, rank_append k low (here ++ high), rank_all k low (below_first R o k cs i a p), rank_append k here high, rank_above k high (above_place R o k cs i a p))

  pub rank_none : (cs : List (List K)) (k : K) → length cs ≡ 0 → 0 ≡ rank R k (joined cs)
  unfolding rank
  rank_none [] k h = refl
  rank_none (c ∷ cs) k h = absurd (omega arith)

  pub front-le : (cs : List (List K)) (i : ℕ) → i < length cs → length (joined (take i cs)) ≤ length (joined cs)
  front-le cs i h = omega (arith, ap length (joined_at cs i h), length-append (joined (take i cs)) (get_or cs i [] ++ joined (drop (suc i) cs)))

-- how many members come before one, as others come and go
module _ {K : Type 0} (R : K → K → Ordering) (o : IsTotalOrder R) where
  turned : (x y : K) (r : Ordering) → R x y ≡ r → R y x ≡ ordering_reverse r
  turned x y r e = o.antisymm y x ∙ ap ordering_reverse e

  pub below_of : (x m k : K) → R x m ≡ Less → is_lt (R k m) ≡ false → R x k ≡ Less
  below_of x m k h n = elim (R k m) as (λ r. R k m ≡ r → is_lt r ≡ false → R x k ≡ Less) [
    | Less ↦ λ e f. absurd cc
    | Equal ↦ λ e f. alike_right o k m x e ∙ h
    | Greater ↦ λ e f. o.trans x m k h (turned k m Greater e)
  ] refl n

  pub not_below : (k x m : K) → R k x ≡ Less → is_lt (R k m) ≡ false → is_lt (R x m) ≡ false
  not_below k x m h n = elim (R x m) as (λ r. R x m ≡ r → is_lt r ≡ false) [
    | Less ↦ λ e. sym (ap is_lt (o.trans k x m h e)) ∙ n
    | Equal ↦ λ e. refl
    | Greater ↦ λ e. refl
  ] refl

  -- whether one more comes before
  abbrev counted : K → K → ℕ → ℕ
  counted x m n = cond (is_lt (R x m)) (suc n) n

  pub rank-cons : (m x : K) (xs : List K) → rank R m (x ∷ xs) ≡ counted x m (rank R m xs)
  unfolding rank
  rank-cons m x xs = elim (is_lt (R x m)) as (λ b. length (cond b (x ∷ filter (λ y. is_lt (R y m)) xs) (filter (λ y. is_lt (R y m)) xs)) ≡ cond b (suc (length (filter (λ y. is_lt (R y m)) xs))) (length (filter (λ y. is_lt (R y m)) xs))) [ true ↦ refl | false ↦ refl ]

  pub rank-nil : (m : K) → rank R m [] ≡ 0
  unfolding rank
  rank-nil m = refl

  pub rank-le : (k : K) (xs : List K) → rank R k xs ≤ length xs
  rank-le k [] = omega (arith, rank-nil k)
  rank-le k (x ∷ xs) = rw (rank-cons k x xs) (elim (is_lt (R x k)) as (λ b. cond b (suc (rank R k xs)) (rank R k xs) ≤ suc (length xs)) [ true ↦ omega (arith, rank-le k xs) | false ↦ omega (arith, rank-le k xs) ])

  counts_more : (x m k : K) (a b : ℕ) → is_lt (R k m) ≡ false → a ≤ b → counted x m a ≤ counted x k b
  counts_more x m k a b n le = elim (R x m) as (λ r. R x m ≡ r → cond (is_lt r) (suc a) a ≤ counted x k b) [
    | Less ↦ λ e. rw (below_of x m k e n) (omega arith)
    | Equal ↦ λ e. elim (is_lt (R x k)) as (λ t. a ≤ cond t (suc b) b) [ true ↦ omega arith | false ↦ le ]
    | Greater ↦ λ e. elim (is_lt (R x k)) as (λ t. a ≤ cond t (suc b) b) [ true ↦ omega arith | false ↦ le ]
  ] refl

  pub rank_mono : (m k : K) (xs : List K) → is_lt (R k m) ≡ false → rank R m xs ≤ rank R k xs
  rank_mono m k [] n = omega (arith, rank-nil m)
  rank_mono m k (x ∷ xs) n = rw (rank-cons m x xs, rank-cons k x xs) (counts_more x m k (rank R m xs) (rank R k xs) n (rank_mono m k xs n))

  pub rank_put_low : (m k : K) (xs : List K) → is_lt (R k m) ≡ false → rank R m (put R k xs) ≡ rank R m xs
  unfolding put
  rank_put_low m k [] n = rank-cons m k [] ∙ ap (λ b. cond b (suc (rank R m [])) (rank R m [])) n
  rank_put_low m k (x ∷ xs) n = elim (R k x) as (λ r. rank R m (by_order r (k ∷ x ∷ xs) (x ∷ xs) (x ∷ put R k xs)) ≡ rank R m (x ∷ xs)) [
    | Less ↦ rank-cons m k (x ∷ xs) ∙ ap (λ b. cond b (suc (rank R m (x ∷ xs))) (rank R m (x ∷ xs))) n
    | Equal ↦ refl
    | Greater ↦ rank-cons m x (put R k xs) ∙ ap (counted x m) (rank_put_low m k xs n) ∙ sym (rank-cons m x xs)
  ]

  pub rank_without_low : (m k : K) (xs : List K) → is_lt (R k m) ≡ false → rank R m (without R k xs) ≡ rank R m xs
  unfolding without
  rank_without_low m k [] n = refl
  rank_without_low m k (x ∷ xs) n =
      let others = filter (λ y. not (eq_by_cmp R k y)) xs in
      let rest : rank R m others ≡ rank R m xs = rank_without_low m k xs n in
      let stays : rank R m (x ∷ others) ≡ rank R m (x ∷ xs) = rank-cons m x others ∙ ap (counted x m) rest ∙ sym (rank-cons m x xs) in
      elim (R k x) as (λ r. R k x ≡ r → rank R m (cond (not (is_eq r)) (x ∷ others) others) ≡ rank R m (x ∷ xs)) [
        | Less ↦ λ e. stays
        | Equal ↦ λ e. rest ∙ sym (rank-cons m x xs ∙ ap (λ b. cond b (suc (rank R m xs)) (rank R m xs)) (ap is_lt (sym (o.congr k x m e)) ∙ n))
        | Greater ↦ λ e. stays
      ] refl

  -- what comes before a member stays as it comes or goes
  pub take_put : (n : ℕ) (k : K) (xs : List K) → IsStrictlySortedBy R xs → n ≤ rank R k xs → take n (put R k xs) ≡ take n xs
  unfolding put IsStrictlySortedBy
  take_put zero k xs s h = refl
  take_put (suc n) k [] s h = absurd (omega (arith, rank-nil k))
  take_put (suc n) k (x ∷ xs) s h =
      let h2 : suc n ≤ counted x k (rank R k xs) = rw (rank-cons k x xs) at h in
      elim (R x k) as (λ r. R x k ≡ r → suc n ≤ cond (is_lt r) (suc (rank R k xs)) (rank R k xs) → take (suc n) (by_order (R k x) (k ∷ x ∷ xs) (x ∷ xs) (x ∷ put R k xs)) ≡ x ∷ take n xs) [
        | Less ↦ λ e l. rw (turned x k Less e) (ap (λ (z : List K). x ∷ z) (take_put n k xs s.1 (omega arith)))
        | Equal ↦ λ e l. absurd (omega (arith, rank_above R o k xs (above_tied R o k x xs e s.0)))
        | Greater ↦ λ e l. absurd (omega (arith, rank_above R o k xs (above_less R o k x xs (turned x k Greater e) s.0)))
      ] refl h2

  pub take_without : (n : ℕ) (k : K) (xs : List K) → IsStrictlySortedBy R xs → n ≤ rank R k xs → take n (without R k xs) ≡ take n xs
  unfolding without IsStrictlySortedBy
  take_without zero k xs s h = refl
  take_without (suc n) k [] s h = absurd (omega (arith, rank-nil k))
  take_without (suc n) k (x ∷ xs) s h =
      let h2 : suc n ≤ counted x k (rank R k xs) = rw (rank-cons k x xs) at h in
      elim (R x k) as (λ r. R x k ≡ r → suc n ≤ cond (is_lt r) (suc (rank R k xs)) (rank R k xs) → take (suc n) (cond (not (is_eq (R k x))) (x ∷ filter (λ y. not (eq_by_cmp R k y)) xs) (filter (λ y. not (eq_by_cmp R k y)) xs)) ≡ x ∷ take n xs) [
        | Less ↦ λ e l. rw (turned x k Less e) (ap (λ (z : List K). x ∷ z) (take_without n k xs s.1 (omega arith)))
        | Equal ↦ λ e l. absurd (omega (arith, rank_above R o k xs (above_tied R o k x xs e s.0)))
        | Greater ↦ λ e l. absurd (omega (arith, rank_above R o k xs (above_less R o k x xs (turned x k Greater e) s.0)))
      ] refl h2

  pub after_less : (q r : K) → is_lt (R q r) ≡ true → is_lt (R r q) ≡ false
  after_less q r h = elim (R q r) as (λ a. R q r ≡ a → is_lt a ≡ true → is_lt (R r q) ≡ false) [
    | Less ↦ λ e t. ap is_lt (turned q r Less e)
    | Equal ↦ λ e t. absurd cc
    | Greater ↦ λ e t. absurd cc
  ] refl h

-- a chunk that is passed by
pub passed : {K : Type 0} (cs : List (List K)) (i left : ℕ) (c all : List K) → i < length cs → c ≡ get_or cs i c → length c ≤ left → drop left (joined (drop i cs)) ≡ all → left ≤ length (joined (drop i cs))
    → (drop (left - length c) (joined (drop (i + 1) cs)) ≡ all) × (left - length c ≤ length (joined (drop (i + 1) cs)))
passed {K} cs i left c all h is past rest fits =
    let cut : drop i cs ≡ c ∷ drop (i + 1) cs = rw add-one (drop-cons cs i c h ∙ ap (λ (x : List K). x ∷ drop (suc i) cs) (sym is)) in
    let whole : joined (drop i cs) ≡ c ++ joined (drop (i + 1) cs) = ap joined cut in
    (sym (drop_past c (joined (drop (i + 1) cs)) left past) ∙ ap (drop left) (sym whole) ∙ rest, omega (arith, ap length whole, length-append c (joined (drop (i + 1) cs))))
  where
    drop_past : {A : Type 0} (xs ys : List A) (n : ℕ) → length xs ≤ n → drop n (xs ++ ys) ≡ drop (n - length xs) ys
    drop_past [] ys n l = let e : n - 0 ≡ n = omega arith in rw e refl
    drop_past (x ∷ xs) ys zero l = absurd (omega arith)
    drop_past (x ∷ xs) ys (suc n) l = let e : suc n - suc (length xs) ≡ n - length xs = omega arith in rw e (drop_past xs ys n (omega arith))
