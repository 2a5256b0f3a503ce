-- Chunks as the code reads them.
use Rattle.std.proofs.Common.{◌≡◌, ℕ, ◌+◌, ◌<◌, true, false, List, [], ◌∷◌, ◌++◌, length, get_or, set, refl, sym, ap, subst, ◌∙◌, arith}
use Rattle.std.specs.List.{insert, remove}
use Rattle.std.specs.List.Sorted.{IsStrictlySortedBy}
use Rattle.std.specs.Cmp.{IsTotalOrder}
use Rattle.std.specs.declared.cmp.Ordering.{Ordering}
use Rattle.std.proofs.lemmas.List.{get_or_default, append-nil}
use Rattle.std.proofs.lemmas.List.Elements.{All-nil, All-cons}
use Rattle.tca_join.specs.Sets.{has, put}
use Rattle.tca_log.specs.inside.Chunks.{starts_after, joined, AreChunks, IsPosition}
use Rattle.tca_log.specs.Rows.Ordered.{without, without_each, tied}
use Rattle.tca_log.proofs.OrderedRows.Each.{beyond_rises}
use Rattle.tca_log.proofs.OrderedRows.Parts.{rises_front, rises_back, put_past, put_before, above_since}
use Rattle.tca_log.proofs.OrderedRows.Positions.{below_start, chunk_rises, chunks_put, chunks_split, chunks_less, chunks_gone}
use Rattle.tca_log.proofs.OrderedRows.Small.{one_list}
use Rattle.tca_log.proofs.OrderedRows.Ties.{tied_place}
use Rattle.std.specs.Prelude.{None}

pub no_items : {A : Type 0} (xs : List A) → length xs ≡ 0 → xs ≡ []
no_items [] h = refl
no_items (x ∷ xs) h = absurd (omega arith)

module _ {K : Type 0} (R : K → K → Ordering) (o : IsTotalOrder R) where
  -- a list in two parts
  pub put_low : (k : K) (xs l u : List K) → l ++ u ≡ xs → IsStrictlySortedBy R xs → starts_after R k u ≡ true → put R k xs ≡ put R k l ++ u
  put_low k xs l u is s e = ap (put R k) (sym is) ∙ put_before R o k l u (above_since R o k u (rises_back R o l u (subst (IsStrictlySortedBy R) (sym is) s)) e)

  pub put_high : (k : K) (xs l u : List K) → l ++ u ≡ xs → IsStrictlySortedBy R xs → 0 < length u → starts_after R k u ≡ false → put R k xs ≡ l ++ put R k u
  put_high k xs l u is s some e =
      let whole : IsStrictlySortedBy R (l ++ (u ++ [])) = subst (IsStrictlySortedBy R) (sym is ∙ ap (λ (z : List K). l ++ z) (sym (append-nil u))) s in
      ap (put R k) (sym is) ∙ put_past R o k l u (below_start R o k l u [] some whole e)

  pub low_rises : (xs l u : List K) → l ++ u ≡ xs → IsStrictlySortedBy R xs → IsStrictlySortedBy R l
  low_rises xs l u is s = rises_front R o l u (subst (IsStrictlySortedBy R) (sym is) s)

  pub high_rises : (xs l u : List K) → l ++ u ≡ xs → IsStrictlySortedBy R xs → IsStrictlySortedBy R u
  high_rises xs l u is s = rises_back R o l u (subst (IsStrictlySortedBy R) (sym is) s)

  -- a chunk that was read at a place
  pub here : (cs : List (List K)) (i : ℕ) (c : List K) → i < length cs → c ≡ get_or cs i c → get_or cs i [] ≡ c
  here cs i c l is = get_or_default cs i [] c l ∙ sym is

  pub rises_here : (k : K) (cs : List (List K)) (i : ℕ) (c : List K) → AreChunks R cs → IsPosition R cs k i → c ≡ get_or cs i c → IsStrictlySortedBy R c
  rises_here k cs i c a p is = subst (IsStrictlySortedBy R) (here cs i c p.inside is) (chunk_rises R o cs i a p.inside)

  pub tied_here : (k : K) (cs : List (List K)) (i : ℕ) (c : List K) → AreChunks R cs → IsPosition R cs k i → c ≡ get_or cs i c → tied R k (joined cs) ≡ tied R k c
  tied_here k cs i c a p is = tied_place R o k cs i a p ∙ ap (tied R k) (here cs i c p.inside is)

  pub tied_empty : (cs : List (List K)) (k : K) → length cs ≡ 0 → None ≡ tied R k (joined cs)
  unfolding tied
  tied_empty [] k h = refl
  tied_empty (c ∷ cs) k h = absurd (omega arith)

  pub put_here : (k : K) (cs : List (List K)) (i : ℕ) (c : List K) → AreChunks R cs → IsPosition R cs k i → c ≡ get_or cs i c → (joined (set cs i (put R k c)) ≡ put R k (joined cs)) × AreChunks R (set cs i (put R k c))
  put_here k cs i c a p is = subst (λ (x : List K). (joined (set cs i (put R k x)) ≡ put R k (joined cs)) × AreChunks R (set cs i (put R k x))) (here cs i c p.inside is) (chunks_put R o k cs i a p)

  pub split_here : (k : K) (cs : List (List K)) (i : ℕ) (c d e : List K) → AreChunks R cs → IsPosition R cs k i → c ≡ get_or cs i c → put R k c ≡ d ++ e → 0 < length d → 0 < length e
      → (joined (insert (set cs i d) (i + 1) e) ≡ put R k (joined cs)) × AreChunks R (insert (set cs i d) (i + 1) e)
  split_here k cs i c d e a p is parts some_d some_e = chunks_split R o k cs i d e a p (ap (put R k) (here cs i c p.inside is) ∙ parts) some_d some_e

  pub less_here : (k : K) (cs : List (List K)) (i : ℕ) (c d : List K) → AreChunks R cs → IsPosition R cs k i → c ≡ get_or cs i c → d ≡ without R k c → 0 < length d → (joined (set cs i d) ≡ without R k (joined cs)) × AreChunks R (set cs i d)
  less_here k cs i c d a p is less some = chunks_less R o k cs i d a p (less ∙ ap (without R k) (sym (here cs i c p.inside is))) some

  pub gone_here : (k : K) (cs : List (List K)) (i : ℕ) (c d : List K) → AreChunks R cs → IsPosition R cs k i → c ≡ get_or cs i c → d ≡ without R k c → length d ≡ 0 → (joined (remove (set cs i d) i) ≡ without R k (joined cs)) × AreChunks R (remove (set cs i d) i)
  gone_here k cs i c d a p is less none = chunks_gone R o k cs i d a p (less ∙ ap (without R k) (sym (here cs i c p.inside is))) none

  pub first_chunk : (k : K) → AreChunks R ((k ∷ []) ∷ [])
  unfolding IsStrictlySortedBy
  first_chunk k = record { rises = (tt, tt); some = All-cons (λ (c : List K). 0 < length c) (k ∷ []) [] (omega arith) (All-nil (λ (c : List K). 0 < length c)) }

  pub first_put : (k : K) → put R k [] ≡ k ∷ []
  unfolding put
  first_put k = refl

  pub no_chunks : AreChunks R []
  unfolding IsStrictlySortedBy
  no_chunks = record { rises = tt; some = All-nil (λ (c : List K). 0 < length c) }

  -- the only chunk, of which some members stay
  pub only_less : (ks : List K) (cs : List (List K)) (c d : List K) → length cs ≡ 1 → AreChunks R cs → c ≡ get_or cs 0 c → d ≡ without_each R ks c → 0 < length d → AreChunks R (set cs 0 d)
  only_less ks [] c d one a is less some = absurd (omega (arith, one))
  only_less ks (x ∷ []) c d one a is less some =
      one_list R d (subst (IsStrictlySortedBy R) (sym less) (beyond_rises R o ks c (subst (IsStrictlySortedBy R) (append-nil x ∙ sym is) a.rises))) some
  only_less ks (x ∷ y ∷ cs) c d one a is less some = absurd (omega (arith, one))

  pub has_some : (cs : List (List K)) (k : K) → has R (joined cs) k ≡ true → (0 < length cs) × (0 < length (joined cs))
  unfolding has
  has_some cs k h = (some_chunk cs h, some_item (joined cs) h)
    where
      some_chunk : (ds : List (List K)) → has R (joined ds) k ≡ true → 0 < length ds
      some_chunk [] h = absurd cc
      some_chunk (d ∷ ds) h = omega arith

      some_item : (xs : List K) → has R xs k ≡ true → 0 < length xs
      some_item [] h = absurd cc
      some_item (x ∷ xs) h = omega arith
