-- What chains and maps clash at, and what their joins are, in their own words.
use Rattle.std.proofs.Common.{◌≡◌, ◌⊎◌, inl, inr, ℕ, zero, suc, ◌<◌, Bool, true, false, ◌||◌, cond, Option, None, Some, List, [], ◌∷◌, get_or, ◌==◌, refl, sym, ap, ◌∙◌, subst, arith}
use Rattle.std.specs.Cmp.{IsEquivalence}
use Rattle.std.specs.List.{AllByRecursion}
use Rattle.std.proofs.lemmas.Bool.{eq-eqb, ne_eqb, eqb-true, cases_order, false≢true}
use Rattle.tca_join.specs.Chains.{next, differ_at, AreEqual, IsPrefix, IsFirstDifference, ClashIsFirst, CompatibleIsPrefix, TakesLonger, KeepsLonger}
use Rattle.tca_join.specs.Maps.{get, Rises, clash_key, clash_with, map_full, full_with, first_of, join_with, IsLeastClash, IsOnlyMap, SetsOneKey, JoinsKeyByKey, CompatibleAtEach, ClashIsLeast, FitsAtEach, FullAtSome}
use Rattle.tca_join.specs.laws.MapLaws.{not_there, all_above, rises_put, get_put, rises_merged, get_merged, clash_at, full_at}

next_some : (o : Option ℕ) (n : ℕ) → next o ≡ Some (suc n) → o ≡ Some n
next_some None n e = absurd cc
next_some (Some m) n e = ap (λ k. Some k) (omega (arith, some_is (suc m) (suc n) e)) where
  some_is : (a b : ℕ) → Some a ≡ Some b → a ≡ b
  some_is a b e = cc

next_zero : (o : Option ℕ) → next o ≡ Some 0 → ⊥
next_zero None e = absurd cc
next_zero (Some m) e = absurd (omega (arith, some_is (suc m) 0 e)) where
  some_is : (a b : ℕ) → Some a ≡ Some b → a ≡ b
  some_is a b e = cc

next_none : (o : Option ℕ) → next o ≡ None → o ≡ None
next_none None e = refl
next_none (Some n) e = absurd cc

module _ {T : Type 0} (eq : T → T → Bool) where
  pub clash_is_first : ClashIsFirst eq
  clash_is_first [] b at e = absurd cc
  clash_is_first (x ∷ a) [] at e = absurd cc
  clash_is_first (x ∷ a) (y ∷ b) zero e =
      elim (eq x y) as (λ t. eq x y ≡ t → cond t (next (differ_at eq a b)) (Some 0) ≡ Some 0 → IsFirstDifference eq (x ∷ a) (y ∷ b) 0) [
        | true ↦ λ is e. absurd (next_zero (differ_at eq a b) e)
        | false ↦ λ is e. record { in_first = omega arith; in_second = omega arith; differs = λ d. is; before = λ k d l. absurd (omega arith) }
      ] refl e
  clash_is_first (x ∷ a) (y ∷ b) (suc at) e =
      elim (eq x y) as (λ t. eq x y ≡ t → cond t (next (differ_at eq a b)) (Some 0) ≡ Some (suc at) → IsFirstDifference eq (x ∷ a) (y ∷ b) (suc at)) [
        | true ↦ λ is e.
            let rest = clash_is_first a b at (next_some (differ_at eq a b) at e) in
            record { in_first = omega (arith, rest.in_first); in_second = omega (arith, rest.in_second); differs = rest.differs; before = earlier x y a b at is rest.before }
        | false ↦ λ is e. absurd cc
      ] refl e where
        earlier : (x y : T) (a b : List T) (at : ℕ) → eq x y ≡ true → ((k : ℕ) (d : T) → k < at → eq (get_or a k d) (get_or b k d) ≡ true) → (k : ℕ) (d : T) → k < suc at → eq (get_or (x ∷ a) k d) (get_or (y ∷ b) k d) ≡ true
        earlier x y a b at is rest zero d l = is
        earlier x y a b at is rest (suc k) d l = rest k d (omega arith)

module _ {T : Type 0} (eq : T → T → Bool) (equiv : IsEquivalence eq) where
  pub compatible_is_prefix : CompatibleIsPrefix eq
  compatible_is_prefix [] b e = inl tt
  compatible_is_prefix (x ∷ a) [] e = inr tt
  compatible_is_prefix (x ∷ a) (y ∷ b) e =
      elim (eq x y) as (λ t. eq x y ≡ t → cond t (next (differ_at eq a b)) (Some 0) ≡ None → IsPrefix eq (x ∷ a) (y ∷ b) ⊎ IsPrefix eq (y ∷ b) (x ∷ a)) [
        | true ↦ λ is e. elim (compatible_is_prefix a b (next_none (differ_at eq a b) e)) [ inl h ↦ inl (is, h) | inr h ↦ inr (equiv.symm y x ∙ is, h) ]
        | false ↦ λ is e. absurd cc
      ] refl e

  itself : (a : List T) → AreEqual eq a a
  itself [] = tt
  itself (x ∷ a) = (equiv.refl x, itself a)

  pub takes_longer : TakesLonger eq
  takes_longer [] b h = (refl, itself b)
  takes_longer (x ∷ a) [] h = absurd h
  takes_longer (x ∷ a) (y ∷ b) h = let rest = takes_longer a b h.1 in (rw (h.0, rest.0) refl, (h.0, rest.1))

  pub keeps_longer : KeepsLonger eq
  keeps_longer [] [] h = (refl, refl)
  keeps_longer [] (y ∷ b) h = absurd h
  keeps_longer (x ∷ a) [] h = (refl, refl)
  keeps_longer (x ∷ a) (y ∷ b) h = let rest = keeps_longer a b h.1 in let same : eq x y ≡ true = equiv.symm x y ∙ h.0 in (rw (same, rest.0) refl, ap (λ l. x ∷ l) rest.1)

module _ (V : Type 0) where
  some_value : (a b : V) → Some a ≡ Some b → a ≡ b
  some_value a b e = cc

  none_some : (a : V) → None ≡ Some a → ⊥
  none_some a e = absurd cc

  -- the first pair's value is there
  here : (e : ℕ × V) (es : List (ℕ × V)) → get (e ∷ es) e.0 ≡ Some e.1
  here e es = rw (eq-eqb e.0 e.0 refl) refl

  -- the tail has what the whole has, but for the first key
  tail : (e : ℕ × V) (es : List (ℕ × V)) → AllByRecursion (λ next. e.0 < next.0) es → (q : ℕ) → get es q ≡ cond (q == e.0) None (get (e ∷ es) q)
  tail e es h q =
      elim (q == e.0) as (λ b. q == e.0 ≡ b → get es q ≡ cond b None (cond b (Some e.1) (get es q))) [
        | true ↦ λ is. subst (λ z. get es z ≡ None) (sym (eqb-true q e.0 is)) (not_there es e.0 h)
        | false ↦ λ is. refl
      ] refl

  pub only_map : IsOnlyMap V
  only_map [] [] r s same = refl
  only_map [] (y ∷ b) r s same = absurd (none_some y.1 (same y.0 ∙ here y b))
  only_map (x ∷ a) [] r s same = absurd (none_some x.1 (sym (same x.0) ∙ here x a))
  only_map (x ∷ a) (y ∷ b) r s same =
      let keys : x.0 ≡ y.0 = one_first x y a b r s same in
      let values : x.1 ≡ y.1 = some_value x.1 y.1 (sym (here x a) ∙ same x.0 ∙ ap (get (y ∷ b)) keys ∙ here y b) in
      let tails : a ≡ b = only_map a b r.1 s.1 (λ q. tail x a r.0 q ∙ (λ i. cond (q == keys i) None (same q i)) ∙ sym (tail y b s.0 q)) in
      λ i. (keys i, values i) ∷ tails i where
        one_first : (x y : ℕ × V) (a b : List (ℕ × V)) → Rises (x ∷ a) → Rises (y ∷ b) → ((q : ℕ) → get (x ∷ a) q ≡ get (y ∷ b) q) → x.0 ≡ y.0
        one_first x y a b r s same =
            elim (cases_order x.0 y.0) [
              | inl e ↦ e
              | inr other ↦
                  elim other [
                    | inl l ↦ absurd (none_some x.1 (sym (not_there (y ∷ b) x.0 (l, all_above b x.0 y.0 l s.0)) ∙ sym (same x.0) ∙ here x a))
                    | inr l ↦ absurd (none_some y.1 (sym (not_there (x ∷ a) y.0 (l, all_above a y.0 x.0 l r.0)) ∙ same y.0 ∙ here y b))
                  ]
            ]

  pub sets_one_key : SetsOneKey V
  sets_one_key key v es r = (rises_put (λ _ w. w) key v es r, λ q. get_put (λ _ w. w) key v es q r ∙ ap (λ z. cond (q == key) z (get es q)) (second (get es key) v)) where
    second : (o : Option V) (v : V) → join_with (λ _ w. w) o (Some v) ≡ Some v
    second None v = refl
    second (Some w) v = refl

  pub joins_key_by_key : JoinsKeyByKey V
  joins_key_by_key joined a b r s = (rises_merged joined a b r, λ q. get_merged joined a b q r s)

  pub compatible_at_each : CompatibleAtEach V
  compatible_at_each clash a b e q = clash_at clash a b q e

  pub fits_at_each : FitsAtEach V
  fits_at_each full a b e q = full_at full a b q e

  clash_missing : (clash : V → V → Option ℕ) (o p : Option V) → p ≡ None → clash_with clash o p ≡ None
  clash_missing clash o p e = ap (clash_with clash o) e ∙ none o where
    none : (o : Option V) → clash_with clash o None ≡ None
    none None = refl
    none (Some v) = refl

  key_is : (m key : ℕ) → Some m ≡ Some key → m ≡ key
  key_is m key e = cc

  pub clash_is_least : ClashIsLeast V
  clash_is_least clash a [] key s e = absurd cc
  clash_is_least clash a (m ∷ more) key s e =
      elim (clash_with clash (get a m.0) (Some m.1)) as (λ o. clash_with clash (get a m.0) (Some m.1) ≡ o → first_of o m.0 (clash_key clash a more) ≡ Some key → IsLeastClash clash a (m ∷ more) key) [
        | Some n ↦ λ is e. subst (IsLeastClash clash a (m ∷ more)) (key_is m.0 key e) (record {
          here = λ none. absurd (some_none n (sym is ∙ ap (clash_with clash (get a m.0)) (sym (here m more)) ∙ none));
          below = λ q l. clash_missing clash (get a q) (get (m ∷ more) q) (not_there (m ∷ more) q (l, all_above more q m.0 l s.0));
        })
        | None ↦ λ is e.
            let rest = clash_is_least clash a more key s.1 e in
            let apart : key ≡ m.0 → ⊥ = λ k. rest.here (clash_missing clash (get a key) (get more key) (subst (λ z. get more z ≡ None) (sym k) (not_there more m.0 s.0))) in
            record {
              here = λ none. rest.here (ap (clash_with clash (get a key)) (sym (past m more key apart)) ∙ none);
              below = λ q l. elim (q == m.0) as (λ b. q == m.0 ≡ b → clash_with clash (get a q) (cond b (Some m.1) (get more q)) ≡ None) [
                | true ↦ λ k. subst (λ z. clash_with clash (get a z) (Some m.1) ≡ None) (sym (eqb-true q m.0 k)) is
                | false ↦ λ k. rest.below q l
              ] refl;
            }
      ] refl e where
        some_none : (n : ℕ) → Some n ≡ None → ⊥
        some_none n e = absurd cc

        past : (m : ℕ × V) (more : List (ℕ × V)) (q : ℕ) → (q ≡ m.0 → ⊥) → get (m ∷ more) q ≡ get more q
        past m more q apart = rw (ne_eqb q m.0 apart) refl

  full_missing : (full : V → V → Bool) (o p : Option V) → p ≡ None → full_with full o p ≡ false
  full_missing full o p e = ap (full_with full o) e ∙ none o where
    none : (o : Option V) → full_with full o None ≡ false
    none None = refl
    none (Some v) = refl

  pub full_at_some : FullAtSome V
  full_at_some full a [] s e = absurd cc
  full_at_some full a (m ∷ more) s e =
      elim (full_with full (get a m.0) (Some m.1)) as (λ t. full_with full (get a m.0) (Some m.1) ≡ t → (t || map_full full a more) ≡ true → (q : ℕ) × (full_with full (get a q) (get (m ∷ more) q) ≡ true)) [
        | true ↦ λ is _. (m.0, ap (full_with full (get a m.0)) (here m more) ∙ is)
        | false ↦ λ is e.
            let rest = full_at_some full a more s.1 e in
            let apart : rest.0 ≡ m.0 → ⊥ = λ k. false≢true (sym (full_missing full (get a rest.0) (get more rest.0) (subst (λ z. get more z ≡ None) (sym k) (not_there more m.0 s.0))) ∙ rest.1) in
            (rest.0, ap (full_with full (get a rest.0)) (past m more rest.0 apart) ∙ rest.1)
      ] refl e where
        past : (m : ℕ × V) (more : List (ℕ × V)) (q : ℕ) → (q ≡ m.0 → ⊥) → get (m ∷ more) q ≡ get more q
        past m more q apart = rw (ne_eqb q m.0 apart) refl
