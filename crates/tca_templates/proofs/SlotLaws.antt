-- Slots and what stands in them.
use Rattle.std.proofs.Common.{◌≡◌, Bool, ℕ, zero, suc, ◌+◌, ◌<◌, ◌≤◌, true, false, cond, List, [], ◌∷◌, ◌++◌, length, take, set, Option, Some, None, ◌⊎◌, inl, inr, refl, sym, ap, subst, ◌∙◌, arith, length-append, length-set}
use Rattle.std.specs.Prelude.{filter, slice_get, ⊤}
use Rattle.std.specs.Option.{option_map, is_some}
use Rattle.std.specs.Map.{lookup}
use Rattle.indexmap.specs.IndexMap.{insert_entry, shift_remove_entry}
use Rattle.tca_templates.specs.Templates.{Key, same_key}
use Rattle.tca_templates.specs.inside.Slotted.{filled, place_of, IsApart, Places, held, IsSlotted}
use Rattle.tca_templates.proofs.Keys.{same_is, same, back, on, clash, turned}

abbrev Slots : Type 0 → Type 0
Slots X = List (Option (Key × X))

-- a place behind the first slot
behind : (o : Option ℕ) (i : ℕ) → option_map suc o ≡ Some i → (j : ℕ) × (o ≡ Some j) × (i ≡ suc j)
behind None i e = absurd cc
behind (Some j) i e = (j, refl, cc)

before : (o : Option ℕ) → option_map suc o ≡ None → o ≡ None
before None e = refl
before (Some j) e = absurd cc

pub miss : {Y : Type 0} (b : Bool) (y : Y) (o : Option Y) → cond b (Some y) o ≡ None → (b ≡ false) × (o ≡ None)
miss true y o e = absurd cc
miss false y o e = (refl, e)

just : (m n : ℕ) → Some m ≡ Some n → m ≡ n
just m n e = cc

hit : (b : Bool) (o : Option ℕ) (i : ℕ) → cond b (Some 0) (option_map suc o) ≡ Some i → ((b ≡ true) × (i ≡ 0)) ⊎ ((b ≡ false) × (j : ℕ) × (o ≡ Some j) × (i ≡ suc j))
hit true o i e = inl (refl, sym (just 0 i e))
hit false o i e = let b = behind o i e in inr (refl, b.0, b.1, b.2)

-- a slot that a key isn't found in has another key
other : {X : Type 0} (k : Key) (x : Key × X) (ss : Slots X) → place_of k (Some x ∷ ss) ≡ None → (same_key k x.0 ≡ false) × (place_of k ss ≡ None)
other k x ss e = let m = miss (same_key k x.0) 0 (option_map suc (place_of k ss)) e in (m.0, before (place_of k ss) m.1)

-- what stands in the slot of a key
pub record Stands {X : Type 0} (k : Key) (ss : Slots X) (i : ℕ) : Type 0 where
  pub one : Key × X
  pub there : slice_get ss i ≡ Some (Some one)
  pub known : lookup (same_key k) (filled ss) ≡ Some one.1
  pub within : i < length ss

pub stands : {X : Type 0} (k : Key) (ss : Slots X) (i : ℕ) → place_of k ss ≡ Some i → Stands k ss i
stands k [] i e = absurd cc
stands k (None ∷ ss) i e =
    let b = behind (place_of k ss) i e in
    let s = stands k ss b.0 b.1 in
    subst (λ j. Stands k (None ∷ ss) j) (sym b.2) (record { one = s.one; there = s.there; known = s.known; within = omega (arith, s.within) })
stands k (Some x ∷ ss) i e = elim (hit (same_key k x.0) (place_of k ss) i e) [
  | inl w ↦ subst (λ j. Stands k (Some x ∷ ss) j) (sym w.1)
      (record { one = x; there = refl; known = ap (λ c. cond c (Some x.1) (lookup (same_key k) (filled ss))) w.0; within = omega arith })
  | inr w ↦
      let s = stands k ss w.1 w.2 in
      subst (λ j. Stands k (Some x ∷ ss) j) (sym w.3)
      (record { one = s.one; there = s.there; known = ap (λ c. cond c (Some x.1) (lookup (same_key k) (filled ss))) w.0 ∙ s.known; within = omega (arith, s.within) })
]

pub unknown : {X : Type 0} (k : Key) (ss : Slots X) → place_of k ss ≡ None → lookup (same_key k) (filled ss) ≡ None
unknown k [] e = refl
unknown k (None ∷ ss) e = unknown k ss (before (place_of k ss) e)
unknown k (Some x ∷ ss) e =
    let o = other k x ss e in
    ap (λ b. cond b (Some x.1) (lookup (same_key k) (filled ss))) o.0 ∙ unknown k ss o.1

pub placed : {X : Type 0} (k : Key) (ss : Slots X) → lookup (same_key k) (filled ss) ≡ None → place_of k ss ≡ None
placed k [] e = refl
placed k (None ∷ ss) e = ap (option_map suc) (placed k ss e)
placed k (Some x ∷ ss) e =
    let m = miss (same_key k x.0) x.1 (lookup (same_key k) (filled ss)) e in
    ap (λ b. cond b (Some 0) (option_map suc (place_of k ss))) m.0 ∙ ap (option_map suc) (placed k ss m.1)

pub slotted_none : {X : Type 0} → IsSlotted {X = X} [] [] 0
slotted_none = record { found = λ j. refl; apart = tt; counted = refl; few = omega arith }

-- the template of a key is exchanged
pub filled_put : {X : Type 0} (k : Key) (t : X) (ss : Slots X) (i : ℕ) → place_of k ss ≡ Some i → filled (set ss i (Some (k, t))) ≡ insert_entry same_key (filled ss) k t
filled_put k t [] i e = absurd cc
filled_put k t (None ∷ ss) i e =
    let b = behind (place_of k ss) i e in
    ap (λ j. filled (set (None ∷ ss) j (Some (k, t)))) b.2 ∙ filled_put k t ss b.0 b.1
filled_put k t (Some x ∷ ss) i e = elim (hit (same_key k x.0) (place_of k ss) i e) [
  | inl w ↦
      ap (λ j. filled (set (Some x ∷ ss) j (Some (k, t)))) w.1 ∙ ap (λ (y : Key). (y, t) ∷ filled ss) (same_is k x.0 w.0)
      ∙ sym (ap (λ b. cond b ((x.0, t) ∷ filled ss) (x ∷ insert_entry same_key (filled ss) k t)) w.0)
  | inr w ↦
      ap (λ j. filled (set (Some x ∷ ss) j (Some (k, t)))) w.3 ∙ ap (λ es. x ∷ es) (filled_put k t ss w.1 w.2)
      ∙ sym (ap (λ b. cond b ((x.0, t) ∷ filled ss) (x ∷ insert_entry same_key (filled ss) k t)) w.0)
]

place_put : {X : Type 0} (k : Key) (t : X) (j : Key) (ss : Slots X) (i : ℕ) → place_of k ss ≡ Some i → place_of j (set ss i (Some (k, t))) ≡ place_of j ss
place_put k t j [] i e = absurd cc
place_put k t j (None ∷ ss) i e =
    let b = behind (place_of k ss) i e in
    ap (λ n. place_of j (set (None ∷ ss) n (Some (k, t)))) b.2 ∙ ap (option_map suc) (place_put k t j ss b.0 b.1)
place_put k t j (Some x ∷ ss) i e = elim (hit (same_key k x.0) (place_of k ss) i e) [
  | inl w ↦
      ap (λ n. place_of j (set (Some x ∷ ss) n (Some (k, t)))) w.1
      ∙ ap (λ (y : Key). cond (same_key j y) (Some 0) (option_map suc (place_of j ss))) (same_is k x.0 w.0)
  | inr w ↦
      ap (λ n. place_of j (set (Some x ∷ ss) n (Some (k, t)))) w.3
      ∙ ap (λ o. cond (same_key j x.0) (Some 0) (option_map suc o)) (place_put k t j ss w.1 w.2)
]

apart_put : {X : Type 0} (k : Key) (t : X) (ss : Slots X) (i : ℕ) → place_of k ss ≡ Some i → IsApart ss → IsApart (set ss i (Some (k, t)))
apart_put k t [] i e a = absurd cc
apart_put k t (None ∷ ss) i e a =
    let b = behind (place_of k ss) i e in
    subst (λ n. IsApart (set (None ∷ ss) n (Some (k, t)))) (sym b.2) (apart_put k t ss b.0 b.1 a)
apart_put k t (Some x ∷ ss) i e a = elim (hit (same_key k x.0) (place_of k ss) i e) [
  | inl w ↦ subst (λ n. IsApart (set (Some x ∷ ss) n (Some (k, t)))) (sym w.1) (subst (λ (y : Key). place_of y ss ≡ None) (sym (same_is k x.0 w.0)) a.0, a.1)
  | inr w ↦ subst (λ n. IsApart (set (Some x ∷ ss) n (Some (k, t)))) (sym w.3) (place_put k t x.0 ss w.1 w.2 ∙ a.0, apart_put k t ss w.1 w.2 a.1)
]

count_put : {X : Type 0} (k : Key) (t : X) (ss : Slots X) (i : ℕ) → place_of k ss ≡ Some i → length (filled (set ss i (Some (k, t)))) ≡ length (filled ss)
count_put k t [] i e = absurd cc
count_put k t (None ∷ ss) i e =
    let b = behind (place_of k ss) i e in
    ap (λ j. length (filled (set (None ∷ ss) j (Some (k, t))))) b.2 ∙ count_put k t ss b.0 b.1
count_put k t (Some x ∷ ss) i e = elim (hit (same_key k x.0) (place_of k ss) i e) [
  | inl w ↦ ap (λ j. length (filled (set (Some x ∷ ss) j (Some (k, t))))) w.1
  | inr w ↦ ap (λ j. length (filled (set (Some x ∷ ss) j (Some (k, t))))) w.3 ∙ ap suc (count_put k t ss w.1 w.2)
]

pub slotted_put : {X : Type 0} (k : Key) (t : X) (ss : Slots X) (ps : Places) (n i : ℕ) → IsSlotted ss ps n → place_of k ss ≡ Some i → IsSlotted (set ss i (Some (k, t))) ps n
slotted_put k t ss ps n i s e = record {
  found = λ j. s.found j ∙ sym (place_put k t j ss i e);
  apart = apart_put k t ss i e s.apart;
  counted = s.counted ∙ sym (count_put k t ss i e);
  few = omega (arith, s.few, length-set ss i (Some (k, t)));
}

-- a new template goes last
pub filled_push : {X : Type 0} (k : Key) (t : X) (ss : Slots X) → place_of k ss ≡ None → filled (ss ++ Some (k, t) ∷ []) ≡ insert_entry same_key (filled ss) k t
filled_push k t [] e = refl
filled_push k t (None ∷ ss) e = filled_push k t ss (before (place_of k ss) e)
filled_push k t (Some x ∷ ss) e =
    let o = other k x ss e in
    ap (λ es. x ∷ es) (filled_push k t ss o.1) ∙ sym (ap (λ b. cond b ((x.0, t) ∷ filled ss) (x ∷ insert_entry same_key (filled ss) k t)) o.0)

pub deeper : (b : Bool) (o : Option ℕ) (n : ℕ) → option_map suc (cond b (Some n) o) ≡ cond b (Some (suc n)) (option_map suc o)
deeper true o n = refl
deeper false o n = refl

place_push : {X : Type 0} (k : Key) (t : X) (j : Key) (ss : Slots X) → place_of k ss ≡ None → place_of j (ss ++ Some (k, t) ∷ []) ≡ cond (same_key k j) (Some (length ss)) (place_of j ss)
place_push k t j [] e = ap (λ b. cond b (Some 0) None) (turned j k)
place_push k t j (None ∷ ss) e = ap (option_map suc) (place_push k t j ss (before (place_of k ss) e)) ∙ deeper (same_key k j) (place_of j ss) (length ss)
place_push k t j (Some x ∷ ss) e =
    let o = other k x ss e in
    go (same_key j x.0) refl (same_key k j) refl o.0 (ap (option_map suc) (place_push k t j ss o.1) ∙ deeper (same_key k j) (place_of j ss) (length ss))
  where
    go : (b : Bool) → same_key j x.0 ≡ b → (c : Bool) → same_key k j ≡ c → same_key k x.0 ≡ false
        → option_map suc (place_of j (ss ++ Some (k, t) ∷ [])) ≡ cond (same_key k j) (Some (suc (length ss))) (option_map suc (place_of j ss))
        → cond b (Some 0) (option_map suc (place_of j (ss ++ Some (k, t) ∷ []))) ≡ cond c (Some (suc (length ss))) (cond b (Some 0) (option_map suc (place_of j ss)))
    go true q true r p h = clash (same_key k x.0) (on k j x.0 r q) p
    go true q false r p h = refl
    go false q c r p h = h ∙ ap (λ b. cond b (Some (suc (length ss))) (option_map suc (place_of j ss))) r

apart_push : {X : Type 0} (k : Key) (t : X) (ss : Slots X) → place_of k ss ≡ None → IsApart ss → IsApart (ss ++ Some (k, t) ∷ [])
apart_push k t [] e a = (refl, tt)
apart_push k t (None ∷ ss) e a = apart_push k t ss (before (place_of k ss) e) a
apart_push k t (Some x ∷ ss) e a =
    let o = other k x ss e in
    (place_push k t x.0 ss o.1 ∙ ap (λ b. cond b (Some (length ss)) (place_of x.0 ss)) o.0 ∙ a.0, apart_push k t ss o.1 a.1)

count_push : {X : Type 0} (k : Key) (t : X) (ss : Slots X) → length (filled (ss ++ Some (k, t) ∷ [])) ≡ suc (length (filled ss))
count_push k t [] = refl
count_push k t (None ∷ ss) = count_push k t ss
count_push k t (Some x ∷ ss) = ap suc (count_push k t ss)

pub slotted_push : {X : Type 0} (k : Key) (t : X) (ss : Slots X) (ps qs : Places) (m n : ℕ) → IsSlotted ss ps m → place_of k ss ≡ None
    → ((j : Key) → held qs j ≡ cond (same_key k j) (Some (length ss)) (held ps j)) → length qs ≤ length ps + 1 → n ≡ m + 1
    → IsSlotted (ss ++ Some (k, t) ∷ []) qs n
slotted_push k t ss ps qs m n s e u keys more = record {
  found = λ j. u j ∙ ap (λ o. cond (same_key k j) (Some (length ss)) o) (s.found j) ∙ sym (place_push k t j ss e);
  apart = apart_push k t ss e s.apart;
  counted = omega (arith, more, s.counted, count_push k t ss);
  few = omega (arith, s.few, keys, length-append ss (Some (k, t) ∷ []));
}

-- an empty slot changes nothing
place_gap : {X : Type 0} (j : Key) (ss : Slots X) → place_of j (ss ++ None ∷ []) ≡ place_of j ss
place_gap j [] = refl
place_gap j (None ∷ ss) = ap (option_map suc) (place_gap j ss)
place_gap j (Some x ∷ ss) = ap (λ o. cond (same_key j x.0) (Some 0) (option_map suc o)) (place_gap j ss)

pub apart_gap : {X : Type 0} (ss : Slots X) → IsApart ss → IsApart (ss ++ None ∷ [])
apart_gap [] a = tt
apart_gap (None ∷ ss) a = apart_gap ss a
apart_gap (Some x ∷ ss) a = (place_gap x.0 ss ∙ a.0, apart_gap ss a.1)

pub filled_gap : {X : Type 0} (ss : Slots X) → filled (ss ++ None ∷ []) ≡ filled ss
filled_gap [] = refl
filled_gap (None ∷ ss) = filled_gap ss
filled_gap (Some x ∷ ss) = ap (λ es. x ∷ es) (filled_gap ss)

-- a template is taken out of its slot
pub filled_out : {X : Type 0} (k : Key) (ss : Slots X) (i : ℕ) → place_of k ss ≡ Some i → filled (set ss i None) ≡ shift_remove_entry (same_key k) (filled ss)
filled_out k [] i e = absurd cc
filled_out k (None ∷ ss) i e =
    let b = behind (place_of k ss) i e in
    ap (λ j. filled (set (None ∷ ss) j None)) b.2 ∙ filled_out k ss b.0 b.1
filled_out k (Some x ∷ ss) i e = elim (hit (same_key k x.0) (place_of k ss) i e) [
  | inl w ↦
      ap (λ j. filled (set (Some x ∷ ss) j None)) w.1
      ∙ sym (ap (λ b. cond b (filled ss) (x ∷ shift_remove_entry (same_key k) (filled ss))) w.0)
  | inr w ↦
      ap (λ j. filled (set (Some x ∷ ss) j None)) w.3 ∙ ap (λ es. x ∷ es) (filled_out k ss w.1 w.2)
      ∙ sym (ap (λ b. cond b (filled ss) (x ∷ shift_remove_entry (same_key k) (filled ss))) w.0)
]

-- a key that isn't there is in no list
pub absent_out : {X : Type 0} (k : Key) (es : List (Key × X)) → lookup (same_key k) es ≡ None → shift_remove_entry (same_key k) es ≡ es
absent_out k [] e = refl
absent_out k (x ∷ es) e =
    let m = miss (same_key k x.0) x.1 (lookup (same_key k) es) e in
    ap (λ b. cond b es (x ∷ shift_remove_entry (same_key k) es)) m.0 ∙ ap (λ ys. x ∷ ys) (absent_out k es m.1)

hollow : (b : Bool) (o : Option ℕ) → option_map suc (cond b None o) ≡ cond b None (option_map suc o)
hollow true o = refl
hollow false o = refl

place_out : {X : Type 0} (k j : Key) (ss : Slots X) (i : ℕ) → IsApart ss → place_of k ss ≡ Some i → place_of j (set ss i None) ≡ cond (same_key k j) None (place_of j ss)
place_out k j [] i a e = absurd cc
place_out k j (None ∷ ss) i a e =
    let b = behind (place_of k ss) i e in
    ap (λ n. place_of j (set (None ∷ ss) n None)) b.2 ∙ ap (option_map suc) (place_out k j ss b.0 a b.1) ∙ hollow (same_key k j) (place_of j ss)
place_out k j (Some x ∷ ss) i a e = elim (hit (same_key k x.0) (place_of k ss) i e) [
  | inl w ↦ ap (λ n. place_of j (set (Some x ∷ ss) n None)) w.1 ∙ first w.0 (same_key k j) refl (same_key j x.0) refl
  | inr w ↦
      ap (λ n. place_of j (set (Some x ∷ ss) n None)) w.3
      ∙ ap (λ o. cond (same_key j x.0) (Some 0) (option_map suc o)) (place_out k j ss w.1 a.1 w.2)
      ∙ later w.0 (same_key k j) refl (same_key j x.0) refl
]
  where
    first : same_key k x.0 ≡ true → (c : Bool) → same_key k j ≡ c → (b : Bool) → same_key j x.0 ≡ b
        → option_map suc (place_of j ss) ≡ cond c None (cond b (Some 0) (option_map suc (place_of j ss)))
    first p true r b q =
        let is : x.0 ≡ j = sym (same_is k x.0 p) ∙ same_is k j r in
        ap (option_map suc) (subst (λ (y : Key). place_of y ss ≡ None) is a.0)
    first p false r true q = clash (same_key k j) (on k x.0 j p (back j x.0 q)) r
    first p false r false q = refl

    later : same_key k x.0 ≡ false → (c : Bool) → same_key k j ≡ c → (b : Bool) → same_key j x.0 ≡ b
        → cond b (Some 0) (option_map suc (cond c None (place_of j ss))) ≡ cond c None (cond b (Some 0) (option_map suc (place_of j ss)))
    later p true r true q = clash (same_key k x.0) (on k j x.0 r q) p
    later p true r false q = refl
    later p false r b q = refl

apart_out : {X : Type 0} (k : Key) (ss : Slots X) (i : ℕ) → place_of k ss ≡ Some i → IsApart ss → IsApart (set ss i None)
apart_out k [] i e a = absurd cc
apart_out k (None ∷ ss) i e a =
    let b = behind (place_of k ss) i e in
    subst (λ n. IsApart (set (None ∷ ss) n None)) (sym b.2) (apart_out k ss b.0 b.1 a)
apart_out k (Some x ∷ ss) i e a = elim (hit (same_key k x.0) (place_of k ss) i e) [
  | inl w ↦ subst (λ n. IsApart (set (Some x ∷ ss) n None)) (sym w.1) a.1
  | inr w ↦ subst (λ n. IsApart (set (Some x ∷ ss) n None)) (sym w.3)
      (place_out k x.0 ss w.1 a.1 w.2 ∙ ap (λ b. cond b None (place_of x.0 ss)) w.0 ∙ a.0, apart_out k ss w.1 w.2 a.1)
]

pub count_out : {X : Type 0} (k : Key) (ss : Slots X) (i : ℕ) → place_of k ss ≡ Some i → suc (length (filled (set ss i None))) ≡ length (filled ss)
count_out k [] i e = absurd cc
count_out k (None ∷ ss) i e =
    let b = behind (place_of k ss) i e in
    ap (λ j. suc (length (filled (set (None ∷ ss) j None)))) b.2 ∙ count_out k ss b.0 b.1
count_out k (Some x ∷ ss) i e = elim (hit (same_key k x.0) (place_of k ss) i e) [
  | inl w ↦ ap (λ j. suc (length (filled (set (Some x ∷ ss) j None)))) w.1
  | inr w ↦ ap (λ j. suc (length (filled (set (Some x ∷ ss) j None)))) w.3 ∙ ap suc (count_out k ss w.1 w.2)
]

pub slotted_out : {X : Type 0} (k : Key) (ss : Slots X) (ps qs : Places) (m n i : ℕ) → IsSlotted ss ps m → place_of k ss ≡ Some i
    → ((j : Key) → held qs j ≡ cond (same_key k j) None (held ps j)) → length qs ≡ length ps → n + 1 ≡ m
    → IsSlotted (set ss i None) qs n
slotted_out k ss ps qs m n i s e u keys less = record {
  found = λ j. u j ∙ ap (λ o. cond (same_key k j) None o) (s.found j) ∙ sym (place_out k j ss i s.apart e);
  apart = apart_out k ss i e s.apart;
  counted = omega (arith, less, s.counted, count_out k ss i e);
  few = omega (arith, s.few, keys, length-set ss i None);
}

-- each key leads to its slot
pub leads_back : {X : Type 0} (ss : Slots X) (i : ℕ) (x : Key × X) → IsApart ss → slice_get ss i ≡ Some (Some x) → place_of x.0 ss ≡ Some i
leads_back [] i x a e = absurd cc
leads_back (None ∷ ss) zero x a e = absurd cc
leads_back (None ∷ ss) (suc i) x a e = ap (option_map suc) (leads_back ss i x a e)
leads_back {X = X} (Some y ∷ ss) zero x a e =
    let is : x ≡ y = cc in
    ap (λ b. cond b (Some 0) (option_map suc (place_of x.0 ss))) (same x.0 y.0 (ap (λ (z : Key × X). z.0) is))
leads_back (Some y ∷ ss) (suc i) x a e = go (same_key x.0 y.0) refl (leads_back ss i x a.1 e)
  where
    go : (b : Bool) → same_key x.0 y.0 ≡ b → place_of x.0 ss ≡ Some i → cond b (Some 0) (option_map suc (place_of x.0 ss)) ≡ Some (suc i)
    go true q h =
        let none : place_of x.0 ss ≡ None = subst (λ (z : Key). place_of z ss ≡ None) (sym (same_is x.0 y.0 q)) a.0 in
        let bad : None ≡ Some i = sym none ∙ h in
        absurd cc
    go false q h = ap (option_map suc) h

-- and the slot has that key
pub has_key : {X : Type 0} (k : Key) (ss : Slots X) (i : ℕ) (x : Key × X) → place_of k ss ≡ Some i → slice_get ss i ≡ Some (Some x) → x.0 ≡ k
has_key k [] i x e here = absurd cc
has_key k (None ∷ ss) i x e here =
    let b = behind (place_of k ss) i e in
    has_key k ss b.0 x b.1 (ap (slice_get (None ∷ ss)) (sym b.2) ∙ here)
has_key {X = X} k (Some y ∷ ss) i x e here = elim (hit (same_key k y.0) (place_of k ss) i e) [
  | inl w ↦
      let first : Some (Some y) ≡ Some (Some x) = ap (slice_get (Some y ∷ ss)) (sym w.1) ∙ here in
      let is : y ≡ x = cc in
      ap (λ (z : Key × X). z.0) (sym is) ∙ sym (same_is k y.0 w.0)
  | inr w ↦ has_key k ss w.1 x w.2 (ap (slice_get (Some y ∷ ss)) (sym w.3) ∙ here)
]

-- and is found in no slot before it
pub none_before : {X : Type 0} (ss : Slots X) (i : ℕ) (x : Key × X) → IsApart ss → slice_get ss i ≡ Some (Some x) → place_of x.0 (take i ss) ≡ None
none_before [] i x a e = absurd cc
none_before (y ∷ ss) zero x a e = refl
none_before (None ∷ ss) (suc i) x a e = ap (option_map suc) (none_before ss i x a e)
none_before (Some y ∷ ss) (suc i) x a e = go (same_key x.0 y.0) refl (none_before ss i x a.1 e) (leads_back ss i x a.1 e)
  where
    go : (b : Bool) → same_key x.0 y.0 ≡ b → place_of x.0 (take i ss) ≡ None → place_of x.0 ss ≡ Some i → cond b (Some 0) (option_map suc (place_of x.0 (take i ss))) ≡ None
    go true q h f =
        let none : place_of x.0 ss ≡ None = subst (λ (z : Key). place_of z ss ≡ None) (sym (same_is x.0 y.0 q)) a.0 in
        let bad : None ≡ Some i = sym none ∙ f in
        absurd cc
    go false q h f = ap (option_map suc) h

-- one more slot
pub take_more : {Y : Type 0} (ss : List Y) (i : ℕ) (s : Y) → slice_get ss i ≡ Some s → take (suc i) ss ≡ take i ss ++ s ∷ []
take_more [] i s e = absurd cc
take_more (y ∷ ss) zero s e = let is : y ≡ s = cc in ap (λ z. z ∷ []) is
take_more (y ∷ ss) (suc i) s e = ap (λ zs. y ∷ zs) (take_more ss i s e)

pub take_count : {Y : Type 0} (ss : List Y) (i : ℕ) → i ≤ length ss → length (take i ss) ≡ i
take_count ss zero le = refl
take_count [] (suc i) le = absurd (omega (arith, le))
take_count (y ∷ ss) (suc i) le = ap suc (take_count ss i (omega (arith, le)))

pub take_all : {Y : Type 0} (xs : List Y) (n : ℕ) → length xs ≤ n → take n xs ≡ xs
take_all [] zero le = refl
take_all [] (suc n) le = refl
take_all (x ∷ xs) zero le = absurd (omega (arith, le))
take_all (x ∷ xs) (suc n) le = ap (λ ys. x ∷ ys) (take_all xs n (omega (arith, le)))

-- without the empty slots
pub filled_full : {X : Type 0} (ss : Slots X) → filled (filter is_some ss) ≡ filled ss
filled_full [] = refl
filled_full (None ∷ ss) = filled_full ss
filled_full (Some x ∷ ss) = ap (λ es. x ∷ es) (filled_full ss)

pub full_count : {X : Type 0} (ss : Slots X) → length (filter is_some ss) ≡ length (filled ss)
full_count [] = refl
full_count (None ∷ ss) = full_count ss
full_count (Some x ∷ ss) = ap suc (full_count ss)

pub full_place : {X : Type 0} (k : Key) (ss : Slots X) → place_of k ss ≡ None → place_of k (filter is_some ss) ≡ None
full_place k ss e = placed k (filter is_some ss) (ap (lookup (same_key k)) (filled_full ss) ∙ unknown k ss e)

pub full_apart : {X : Type 0} (ss : Slots X) → IsApart ss → IsApart (filter is_some ss)
full_apart [] a = tt
full_apart (None ∷ ss) a = full_apart ss a
full_apart (Some x ∷ ss) a = (full_place x.0 ss a.0, full_apart ss a.1)

pub full_push : {X : Type 0} (ss : Slots X) (e : Key × X) → filter is_some (ss ++ Some e ∷ []) ≡ filter is_some ss ++ Some e ∷ []
full_push [] e = refl
full_push (None ∷ ss) e = full_push ss e
full_push (Some x ∷ ss) e = ap (λ zs. Some x ∷ zs) (full_push ss e)

pub full_gap : {X : Type 0} (ss : Slots X) → filter is_some (ss ++ None ∷ []) ≡ filter is_some ss
full_gap [] = refl
full_gap (None ∷ ss) = full_gap ss
full_gap (Some x ∷ ss) = ap (λ zs. Some x ∷ zs) (full_gap ss)

pub filled_none : {X : Type 0} (ss : Slots X) → length ss ≡ 0 → filled ss ≡ []
filled_none [] e = refl
filled_none (s ∷ ss) e = absurd (omega (arith, e))

pub filled_few : {X : Type 0} (ss : Slots X) → length (filled ss) ≤ length ss
filled_few [] = omega arith
filled_few (None ∷ ss) = omega (arith, filled_few ss)
filled_few (Some x ∷ ss) = omega (arith, filled_few ss)

-- a slot, emptied unless what stands there passes the test
abbrev pub kept : {E : Type 0} → (E → Bool) → Option E → Option E
kept test None = None
kept test (Some e) = cond (test e) (Some e) None

-- The slots, of which some are emptied whose templates don't pass the test.
abbrev pub IsThinned : {X : Type 0} → (Key × X → Bool) → Slots X → Slots X → Type 0
IsThinned test [] [] = ⊤
IsThinned test [] (t ∷ ts) = ⊥
IsThinned test (s ∷ ss) [] = ⊥
IsThinned test (s ∷ ss) (t ∷ ts) = ((t ≡ s) ⊎ ((t ≡ None) × (kept test s ≡ None))) × IsThinned test ss ts

pub thinned_same : {X : Type 0} (test : Key × X → Bool) (ss : Slots X) → IsThinned test ss ss
thinned_same test [] = tt
thinned_same test (s ∷ ss) = (inl refl, thinned_same test ss)

-- one more is emptied
pub thinned_out : {X : Type 0} (test : Key × X → Bool) (ss ts : Slots X) (i : ℕ) (e : Key × X) → IsThinned test ss ts → slice_get ts i ≡ Some (Some e) → test e ≡ false → IsThinned test ss (set ts i None)
thinned_out test [] [] i e t here out = absurd cc
thinned_out test [] (y ∷ ts) i e t here out = absurd t
thinned_out test (s ∷ ss) [] i e t here out = absurd t
thinned_out {X = X} test (s ∷ ss) (y ∷ ts) zero e t here out =
    let is : y ≡ Some e = cc in
    let none : kept test y ≡ None = ap (λ (z : Option (Key × X)). kept test z) is ∙ ap (λ b. cond b (Some e) None) out in
    elim t.0 [
      | inl w ↦ (inr (refl, sym (ap (λ (z : Option (Key × X)). kept test z) w) ∙ none), t.1)
      | inr w ↦ (inr (refl, w.1), t.1)
    ]
thinned_out test (s ∷ ss) (y ∷ ts) (suc i) e t here out = (t.0, thinned_out test ss ts i e t.1 here out)

-- what is left stood there
pub thinned_from : {X : Type 0} (test : Key × X → Bool) (ss ts : Slots X) (i : ℕ) (e : Key × X) → IsThinned test ss ts → slice_get ts i ≡ Some (Some e) → slice_get ss i ≡ Some (Some e)
thinned_from test [] [] i e t here = absurd cc
thinned_from test [] (y ∷ ts) i e t here = absurd t
thinned_from test (s ∷ ss) [] i e t here = absurd t
thinned_from test (s ∷ ss) (y ∷ ts) zero e t here = elim t.0 [
  | inl w ↦ ap (λ z. Some z) (sym w) ∙ here
  | inr w ↦ let bad : Some None ≡ Some (Some e) = ap (λ z. Some z) (sym w.0) ∙ here in absurd cc
]
thinned_from test (s ∷ ss) (y ∷ ts) (suc i) e t here = thinned_from test ss ts i e t.1 here

-- all of them are emptied
pub thinned_all : {X : Type 0} (test : Key × X → Bool) (ss ts : Slots X) → IsThinned test ss ts → ((j : ℕ) (e : Key × X) → slice_get ts j ≡ Some (Some e) → test e ≡ true) → filled ts ≡ filter test (filled ss)
thinned_all test [] [] t all = refl
thinned_all test [] (y ∷ ts) t all = absurd t
thinned_all test (s ∷ ss) [] t all = absurd t
thinned_all {X = X} test (s ∷ ss) (y ∷ ts) t all =
    let rest = thinned_all test ss ts t.1 (λ j e here. all (suc j) e here) in
    elim t.0 [
      | inl w ↦ ap (λ (z : Option (Key × X)). filled (z ∷ ts)) w ∙ stays s (λ e is. all 0 e (ap (λ z. Some z) (w ∙ is))) rest
      | inr w ↦ ap (λ (z : Option (Key × X)). filled (z ∷ ts)) w.0 ∙ rest ∙ goes s w.1
    ]
  where
    stays : (z : Option (Key × X)) → ((e : Key × X) → z ≡ Some e → test e ≡ true) → filled ts ≡ filter test (filled ss) → filled (z ∷ ts) ≡ filter test (filled (z ∷ ss))
    stays None pass h = h
    stays (Some e) pass h = ap (λ es. e ∷ es) h ∙ sym (ap (λ b. cond b (e ∷ filter test (filled ss)) (filter test (filled ss))) (pass e refl))

    goes : (z : Option (Key × X)) → kept test z ≡ None → filter test (filled ss) ≡ filter test (filled (z ∷ ss))
    goes None k = refl
    goes (Some e) k = go (test e) refl k
      where
        go : (b : Bool) → test e ≡ b → cond b (Some e) None ≡ None → filter test (filled ss) ≡ cond (test e) (e ∷ filter test (filled ss)) (filter test (filled ss))
        go true q bad = absurd cc
        go false q ok = sym (ap (λ b. cond b (e ∷ filter test (filled ss)) (filter test (filled ss))) q)
