-- How many rows chunks have.
use Rattle.std.proofs.Common.{◌≡◌, ℕ, suc, ◌+◌, ◌<◌, ◌≤◌, not, cond, true, false, List, [], ◌∷◌, ◌++◌, length, get_or, set, take, drop, filter, sym, ap, subst, arith, length-append}
use Rattle.std.specs.List.{All, insert, remove}
use Rattle.std.specs.Ordering.{eq_by_cmp}
use Rattle.std.specs.declared.cmp.Ordering.{Ordering}
use Rattle.std.specs.declared.cmp.Ordering.TheVariants.{Less, Equal, Greater}
use Rattle.std.proofs.lemmas.List.{append-nil}
use Rattle.std.proofs.lemmas.List.Elements.{All-nil, All-cons, All-set, All-append, All-take, All-drop}
use Rattle.tca_join.specs.Sets.{by_order, put}
use Rattle.tca_log.specs.inside.Chunks.{joined, AreChunks}
use Rattle.tca_log.specs.Rows.Ordered.{without}
use Rattle.std.specs.List.Sorted.{IsStrictlySortedBy}
use Rattle.tca_log.proofs.OrderedRows.Positions.{joined_at}

-- at most as many as a chunk may have once a row is put
abbrev pub IsSmall : {K : Type 0} → List K → Type 0
IsSmall c = length c ≤ 256

module _ {A : Type 0} (P : A → Type 0) where
  pub all_one : (x : A) → P x → All P (x ∷ [])
  all_one x p = All-cons P x [] p (All-nil P)

  -- where the member at i was split in two
  pub all_split : (xs : List A) (i : ℕ) (d e : A) → All P xs → P d → P e → All P (insert (set xs i d) (i + 1) e)
  all_split xs i d e all p q =
      let changed : All P (set xs i d) = All-set P xs i d p all in
      All-append P (take (i + 1) (set xs i d)) (e ∷ drop (i + 1) (set xs i d)) (All-take P (i + 1) (set xs i d) changed) (All-cons P e (drop (i + 1) (set xs i d)) q (All-drop P (i + 1) (set xs i d) changed))

  pub all_less : (xs : List A) (i : ℕ) → All P xs → All P (remove xs i)
  all_less xs i all = All-append P (take i xs) (drop (suc i) xs) (All-take P i xs all) (All-drop P (suc i) xs all)

  pub all_at : (xs : List A) (i : ℕ) (x : A) → All P xs → i < length xs → x ≡ get_or xs i x → P x
  all_at xs i x all below is = subst P (sym is) (all i x below)

module _ {K : Type 0} (R : K → K → Ordering) where
  pub put_longest : (k : K) (xs : List K) → length (put R k xs) ≤ length xs + 1
  unfolding put
  put_longest k [] = omega arith
  put_longest k (x ∷ xs) = elim (R k x) as (λ r. length (by_order r (k ∷ x ∷ xs) (x ∷ xs) (x ∷ put R k xs)) ≤ length (x ∷ xs) + 1) [ Less ↦ omega arith | Equal ↦ omega arith | Greater ↦ omega (arith, put_longest k xs) ]

  pub without_shorter : (k : K) (xs : List K) → length (without R k xs) ≤ length xs
  unfolding without
  without_shorter k [] = omega arith
  without_shorter k (x ∷ xs) =
      elim (eq_by_cmp R k x) as (λ b. length (cond (not b) (x ∷ filter (λ y. not (eq_by_cmp R k y)) xs) (filter (λ y. not (eq_by_cmp R k y)) xs)) ≤ length (x ∷ xs)) [ true ↦ omega (arith, without_shorter k xs) | false ↦ omega (arith, without_shorter k xs) ]

  -- one list as the only chunk
  pub one_list : (xs : List K) → IsStrictlySortedBy R xs → 0 < length xs → AreChunks R (xs ∷ [])
  one_list xs rises some = record {
    rises = subst (IsStrictlySortedBy R) (sym (append-nil xs)) rises;
    some = all_one (λ (c : List K). 0 < length c) xs some;
  }

-- a chunk has no more rows than all chunks
pub here-le : {K : Type 0} (cs : List (List K)) (i : ℕ) → i < length cs → length (get_or cs i []) ≤ length (joined cs)
here-le cs i h =
    omega (arith, ap length (joined_at cs i h), length-append (joined (take i cs)) (get_or cs i [] ++ joined (drop (suc i) cs)), length-append (get_or cs i []) (joined (drop (suc i) cs)))
