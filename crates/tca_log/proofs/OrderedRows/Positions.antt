-- The chunk in which a member is, or would go.
use Rattle.std.proofs.Common.{◌≡◌, ℕ, zero, suc, ◌+◌, ◌<◌, true, false, not, ◌||◌, cond, List, [], ◌∷◌, ◌++◌, length, get_or, take, drop, set, filter, refl, sym, ap, subst, ◌∙◌, arith, append_assoc, add-one}
use Rattle.std.specs.List.{AllByRecursion, All, insert, remove, list_any}
use Rattle.std.proofs.lemmas.List.Elements.{All-set, All-append, All-take, All-drop, All-cons}
use Rattle.std.proofs.lemmas.List.Kept.{IsStrictlySortedBy-filter}
use Rattle.std.specs.List.Sorted.{IsStrictlySortedBy}
use Rattle.std.specs.Ordering.{is_eq, eq_by_cmp}
use Rattle.std.specs.Cmp.{IsTotalOrder}
use Rattle.std.specs.declared.cmp.Ordering.{Ordering}
use Rattle.std.specs.declared.cmp.Ordering.TheVariants.{Less, Equal, Greater}
use Rattle.tca_join.specs.Sets.{by_order, has, put}
use Rattle.tca_join.proofs.Sets.{rises_put}
use Rattle.tca_log.specs.inside.Chunks.{starts_after, joined, AreChunks, IsPosition}
use Rattle.tca_log.specs.Rows.Ordered.{without}
use Rattle.tca_log.proofs.OrderedRows.Parts.{rises_front, rises_back, put_middle, without_middle, below_since, above_since, without_absent, has_above}

module _ {K : Type 0} where
  -- the chunks as three parts
  pub joined_at : (cs : List (List K)) (i : ℕ) → i < length cs → joined cs ≡ joined (take i cs) ++ (get_or cs i [] ++ joined (drop (suc i) cs))
  joined_at [] i h = absurd (omega arith)
  joined_at (c ∷ cs) zero h = refl
  joined_at (c ∷ cs) (suc i) h = ap (λ (l : List K). c ++ l) (joined_at cs i (omega arith)) ∙ sym (append_assoc c (joined (take i cs)) _)

  pub joined_set : (cs : List (List K)) (i : ℕ) (d : List K) → i < length cs → joined (set cs i d) ≡ joined (take i cs) ++ (d ++ joined (drop (suc i) cs))
  joined_set [] i d h = absurd (omega arith)
  joined_set (c ∷ cs) zero d h = refl
  joined_set (c ∷ cs) (suc i) d h = ap (λ (l : List K). c ++ l) (joined_set cs i d (omega arith)) ∙ sym (append_assoc c (joined (take i cs)) _)

  -- a chunk that was split
  pub joined_split : (cs : List (List K)) (i : ℕ) (d e : List K) → i < length cs → joined (insert (set cs i d) (suc i) e) ≡ joined (take i cs) ++ ((d ++ e) ++ joined (drop (suc i) cs))
  joined_split [] i d e h = absurd (omega arith)
  joined_split (c ∷ cs) zero d e h = sym (append_assoc d e (joined cs))
  joined_split (c ∷ cs) (suc i) d e h = ap (λ (l : List K). c ++ l) (joined_split cs i d e (omega arith)) ∙ sym (append_assoc c (joined (take i cs)) _)

  -- a chunk that was taken away
  pub joined_remove : (cs : List (List K)) (i : ℕ) → i < length cs → joined (remove cs i) ≡ joined (take i cs) ++ ([] ++ joined (drop (suc i) cs))
  joined_remove [] i h = absurd (omega arith)
  joined_remove (c ∷ cs) zero h = refl
  joined_remove (c ∷ cs) (suc i) h = ap (λ (l : List K). c ++ l) (joined_remove cs i (omega arith)) ∙ sym (append_assoc c (joined (take i cs)) _)

module _ {K : Type 0} (R : K → K → Ordering) (o : IsTotalOrder R) where
  starts_more : (k : K) (xs ys : List K) → starts_after R k xs ≡ true → starts_after R k (xs ++ ys) ≡ true
  starts_more k [] ys h = absurd cc
  starts_more k (x ∷ xs) ys h = h

  above_rest : (k : K) (cs : List (List K)) (i : ℕ) → IsStrictlySortedBy R (joined (drop (suc i) cs)) → ((j : ℕ) → j ≡ i + 1 → j < length cs → starts_after R k (get_or cs j []) ≡ true) → AllByRecursion (λ x. R k x ≡ Less) (joined (drop (suc i) cs))
  above_rest k [] i s h = tt
  above_rest k (c ∷ []) zero s h = tt
  above_rest k (c ∷ d ∷ ds) zero s h = above_since R o k (d ++ joined ds) s (starts_more k d (joined ds) (h 1 (omega arith) (omega arith)))
  above_rest k (c ∷ cs) (suc i) s h = above_rest k cs i s (λ j e l. h (suc j) (omega arith) (omega arith))

  pub below_start : (k : K) (xs c zs : List K) → 0 < length c → IsStrictlySortedBy R (xs ++ (c ++ zs)) → starts_after R k c ≡ false → AllByRecursion (λ x. R x k ≡ Less) xs
  below_start k xs [] zs h s e = absurd (omega arith)
  below_start k xs (y ∷ ys) zs h s e = below_since R o k y xs (ys ++ zs) s e

  pub below_first : (k : K) (cs : List (List K)) (i : ℕ) → AreChunks R cs → IsPosition R cs k i → AllByRecursion (λ x. R x k ≡ Less) (joined (take i cs))
  below_first k cs zero a p = tt
  below_first k cs (suc i) a p =
      below_start k (joined (take (suc i) cs)) (get_or cs (suc i) []) (joined (drop (suc (suc i)) cs)) (a.some (suc i) [] p.inside) (subst (IsStrictlySortedBy R) (joined_at cs (suc i) p.inside) a.rises) (p.low (omega arith))

  rest_rises : (cs : List (List K)) (i : ℕ) → AreChunks R cs → i < length cs → IsStrictlySortedBy R (get_or cs i [] ++ joined (drop (suc i) cs))
  rest_rises cs i a l = rises_back R o (joined (take i cs)) _ (subst (IsStrictlySortedBy R) (joined_at cs i l) a.rises)

  -- each chunk rises
  pub chunk_rises : (cs : List (List K)) (i : ℕ) → AreChunks R cs → i < length cs → IsStrictlySortedBy R (get_or cs i [])
  chunk_rises cs i a l = rises_front R o (get_or cs i []) (joined (drop (suc i) cs)) (rest_rises cs i a l)

  pub above_place : (k : K) (cs : List (List K)) (i : ℕ) → AreChunks R cs → IsPosition R cs k i → AllByRecursion (λ x. R k x ≡ Less) (joined (drop (suc i) cs))
  above_place k cs i a p =
      above_rest k cs i (rises_back R o (get_or cs i []) _ (rest_rises cs i a p.inside)) (λ j e l. subst (λ m. starts_after R k (get_or cs m []) ≡ true) (sym e) (p.high (omega arith)))

  pub put_place : (k : K) (cs : List (List K)) (i : ℕ) → AreChunks R cs → IsPosition R cs k i → put R k (joined cs) ≡ joined (take i cs) ++ (put R k (get_or cs i []) ++ joined (drop (suc i) cs))
  put_place k cs i a p = ap (put R k) (joined_at cs i p.inside) ∙ put_middle R o k (joined (take i cs)) (get_or cs i []) (joined (drop (suc i) cs)) (below_first k cs i a p) (above_place k cs i a p)

  pub without_place : (k : K) (cs : List (List K)) (i : ℕ) → AreChunks R cs → IsPosition R cs k i → without R k (joined cs) ≡ joined (take i cs) ++ (without R k (get_or cs i []) ++ joined (drop (suc i) cs))
  without_place k cs i a p = ap (without R k) (joined_at cs i p.inside) ∙ without_middle R o k (joined (take i cs)) (get_or cs i []) (joined (drop (suc i) cs)) (below_first k cs i a p) (above_place k cs i a p)

  pub length_put : (k : K) (xs : List K) → has R xs k ≡ false → length (put R k xs) ≡ length xs + 1
  unfolding has put
  length_put k [] h = omega arith
  length_put k (x ∷ xs) h =
      elim (R k x) as (λ r. (is_eq r || list_any (eq_by_cmp R k) xs) ≡ false → length (by_order r (k ∷ x ∷ xs) (x ∷ xs) (x ∷ put R k xs)) ≡ length (x ∷ xs) + 1) [
        | Less ↦ λ e. omega arith
        | Equal ↦ λ e. absurd cc
        | Greater ↦ λ e. omega (arith, length_put k xs e)
      ] h

  pub some_put : (k : K) (xs : List K) → 0 < length (put R k xs)
  unfolding put
  some_put k [] = omega arith
  some_put k (x ∷ xs) =
      elim (R k x) as (λ r. 0 < length (by_order r (k ∷ x ∷ xs) (x ∷ xs) (x ∷ put R k xs))) [
        | Less ↦ omega arith
        | Equal ↦ omega arith
        | Greater ↦ omega arith
      ]

  -- a chunk that took k
  pub chunks_put : (k : K) (cs : List (List K)) (i : ℕ) → AreChunks R cs → IsPosition R cs k i → (joined (set cs i (put R k (get_or cs i []))) ≡ put R k (joined cs)) × AreChunks R (set cs i (put R k (get_or cs i [])))
  chunks_put k cs i a p =
      let same : joined (set cs i (put R k (get_or cs i []))) ≡ put R k (joined cs) = joined_set cs i (put R k (get_or cs i [])) p.inside ∙ sym (put_place k cs i a p) in (
        same,
        record {
          rises = subst (IsStrictlySortedBy R) (sym same) (rises_put R o k (joined cs) a.rises);
          some = All-set (λ (c : List K). 0 < length c) cs i (put R k (get_or cs i [])) (some_put k (get_or cs i [])) a.some;
        },
      )

  -- a chunk that was split as it took k
  pub chunks_split : (k : K) (cs : List (List K)) (i : ℕ) (d e : List K) → AreChunks R cs → IsPosition R cs k i → put R k (get_or cs i []) ≡ d ++ e → 0 < length d → 0 < length e
      → (joined (insert (set cs i d) (i + 1) e) ≡ put R k (joined cs)) × AreChunks R (insert (set cs i d) (i + 1) e)
  chunks_split k cs i d e a p is some_d some_e =
      let same : joined (insert (set cs i d) (i + 1) e) ≡ put R k (joined cs) = rw add-one (joined_split cs i d e p.inside) ∙ sym (put_place k cs i a p ∙ ap (λ (l : List K). joined (take i cs) ++ (l ++ joined (drop (suc i) cs))) is) in
      let all : All (λ (c : List K). 0 < length c) (set cs i d) = All-set (λ (c : List K). 0 < length c) cs i d some_d a.some in (
        same,
        record {
          rises = subst (IsStrictlySortedBy R) (sym same) (rises_put R o k (joined cs) a.rises);
          some = All-append (λ (c : List K). 0 < length c) (take (i + 1) (set cs i d)) (e ∷ drop (i + 1) (set cs i d)) (All-take (λ (c : List K). 0 < length c) (i + 1) (set cs i d) all) (All-cons (λ (c : List K). 0 < length c) e (drop (i + 1) (set cs i d)) some_e (All-drop (λ (c : List K). 0 < length c) (i + 1) (set cs i d) all));
        },
      )

  -- a chunk that lost k, and has more
  pub chunks_less : (k : K) (cs : List (List K)) (i : ℕ) (d : List K) → AreChunks R cs → IsPosition R cs k i → d ≡ without R k (get_or cs i []) → 0 < length d → (joined (set cs i d) ≡ without R k (joined cs)) × AreChunks R (set cs i d)
  unfolding without
  chunks_less k cs i d a p is some_d =
      let same : joined (set cs i d) ≡ without R k (joined cs) = joined_set cs i d p.inside ∙ ap (λ (l : List K). joined (take i cs) ++ (l ++ joined (drop (suc i) cs))) is ∙ sym (without_place k cs i a p) in (
        same,
        record {
          rises = subst (IsStrictlySortedBy R) (sym same) (IsStrictlySortedBy-filter R (λ x. not (eq_by_cmp R k x)) (joined cs) a.rises);
          some = All-set (λ (c : List K). 0 < length c) cs i d some_d a.some;
        },
      )

  -- a chunk that lost all it had
  pub chunks_gone : (k : K) (cs : List (List K)) (i : ℕ) (d : List K) → AreChunks R cs → IsPosition R cs k i → d ≡ without R k (get_or cs i []) → length d ≡ 0 → (joined (remove (set cs i d) i) ≡ without R k (joined cs)) × AreChunks R (remove (set cs i d) i)
  unfolding without
  chunks_gone k cs i d a p is none =
      let empty : d ≡ [] = empty_from_length d none in
      let same : joined (remove (set cs i d) i) ≡ without R k (joined cs) = ap joined (remove_set cs i d) ∙ joined_remove cs i p.inside ∙ ap (λ (l : List K). joined (take i cs) ++ (l ++ joined (drop (suc i) cs))) (sym empty ∙ is) ∙ sym (without_place k cs i a p) in (
        same,
        record {
          rises = subst (IsStrictlySortedBy R) (sym same) (IsStrictlySortedBy-filter R (λ x. not (eq_by_cmp R k x)) (joined cs) a.rises);
          some = subst (All (λ (c : List K). 0 < length c)) (sym (remove_set cs i d)) (All-append (λ (c : List K). 0 < length c) (take i cs) (drop (suc i) cs) (All-take (λ (c : List K). 0 < length c) i cs a.some) (All-drop (λ (c : List K). 0 < length c) (suc i) cs a.some));
        },
      )
    where
      empty_from_length : (l : List K) → length l ≡ 0 → l ≡ []
      empty_from_length [] h = refl
      empty_from_length (x ∷ xs) h = absurd (omega arith)

      remove_set : (l : List (List K)) (j : ℕ) (x : List K) → remove (set l j x) j ≡ remove l j
      remove_set [] j x = refl
      remove_set (y ∷ l) zero x = refl
      remove_set (y ∷ l) (suc j) x = ap (λ (m : List (List K)). y ∷ m) (remove_set l j x)

  pub length_without : (k : K) (xs : List K) → IsStrictlySortedBy R xs → has R xs k ≡ true → length (without R k xs) + 1 ≡ length xs
  unfolding has without IsStrictlySortedBy
  length_without k [] s h = absurd cc
  length_without k (x ∷ xs) s h =
      elim (R k x) as (λ r. R k x ≡ r → (is_eq r || list_any (eq_by_cmp R k) xs) ≡ true → length (cond (not (is_eq r)) (x ∷ filter (λ y. not (eq_by_cmp R k y)) xs) (filter (λ y. not (eq_by_cmp R k y)) xs)) + 1 ≡ length (x ∷ xs)) [
        | Less ↦ λ e t. omega (arith, length_without k xs s.1 t)
        | Equal ↦ λ e t. let rest : filter (λ y. not (eq_by_cmp R k y)) xs ≡ xs = without_absent R o k xs (has_above R o k xs (beyond xs e s.0)) in omega (arith, ap length rest)
        | Greater ↦ λ e t. omega (arith, length_without k xs s.1 t)
      ] refl h
    where
      beyond : (zs : List K) → R k x ≡ Equal → AllByRecursion (λ y. R x y ≡ Less) zs → AllByRecursion (λ y. R k y ≡ Less) zs
      beyond [] t g = tt
      beyond (z ∷ zs) t g = (o.congr k x z t ∙ g.0, beyond zs t g.1)
