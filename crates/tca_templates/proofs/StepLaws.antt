-- What stood in the slots before the steps.
use Rattle.std.proofs.Common.{◌≡◌, Bool, ℕ, zero, suc, ◌+◌, ◌<◌, ◌≤◌, true, false, cond, List, [], ◌∷◌, ◌++◌, length, get_or, set, Option, Some, None, IfSome, refl, sym, ap, subst, ◌∙◌, arith}
use Rattle.std.proofs.lemmas.List.{set-get_or, length-set}
use Rattle.std.proofs.Common.{length-append}
use Rattle.std.specs.Prelude.{slice_get}
use Rattle.std.proofs.lemmas.Option.{get_or_from_slice_get}
use Rattle.std.specs.Option.{option_map, option_flatten, is_some}
use Rattle.std.specs.Map.{lookup}
use Rattle.tca_templates.specs.Templates.{Key, same_key}
use Rattle.tca_templates.specs.inside.Slotted.{filled, place_of, IsApart, Places, held, is_entered, IsSlotted, Step, undone, AreSteps, noted, before_of, IsEntered, AreEntered, IsKept}
use Rattle.tca_templates.proofs.Keys.{on, clash, turned}
use Rattle.tca_templates.proofs.SlotLaws.{miss, deeper, leads_back, apart_gap, filled_gap, stands, slotted_put, slotted_push, slotted_out}

abbrev Slots : Type 0 → Type 0
Slots X = List (Option (Key × X))

set_twice : {Y : Type 0} (l : List Y) (i : ℕ) (a b : Y) → set (set l i a) i b ≡ set l i b
set_twice [] i a b = refl
set_twice (x ∷ l) zero a b = refl
set_twice (x ∷ l) (suc i) a b = ap (λ m. x ∷ m) (set_twice l i a b)

set_front : {Y : Type 0} (l m : List Y) (i : ℕ) (a : Y) → i < length l → set (l ++ m) i a ≡ set l i a ++ m
set_front [] m i a lt = absurd (omega (arith, lt))
set_front (x ∷ l) m zero a lt = refl
set_front (x ∷ l) m (suc i) a lt = ap (λ n. x ∷ n) (set_front l m i a (omega (arith, lt)))

set_end : {Y : Type 0} (l : List Y) (a b : Y) → set (l ++ a ∷ []) (length l) b ≡ l ++ b ∷ []
set_end [] a b = refl
set_end (x ∷ l) a b = ap (λ n. x ∷ n) (set_end l a b)

length_undone : {X : Type 0} (us : List (Step X)) (ss : Slots X) → length (undone us ss) ≡ length ss
length_undone [] ss = refl
length_undone (u ∷ us) ss = length-set (undone us ss) u.0 u.1 ∙ length_undone us ss

-- the last step is taken back first
pub undone_last : {X : Type 0} (us : List (Step X)) (p : ℕ) (s : Option (Key × X)) (ss : Slots X) → undone (us ++ (p, s) ∷ []) ss ≡ undone us (set ss p s)
undone_last [] p s ss = refl
undone_last (u ∷ us) p s ss = ap (λ ts. set ts u.0 u.1) (undone_last us p s ss)

steps_more : {X : Type 0} (us : List (Step X)) (p : ℕ) (s : Option (Key × X)) (ss : Slots X) → AreSteps us (set ss p s) → p < length ss → IsApart (set ss p s)
    → AreSteps (us ++ (p, s) ∷ []) ss
steps_more [] p s ss all lt a = (tt, lt, a)
steps_more (u ∷ us) p s ss all lt a = (
  steps_more us p s ss all.0 lt a,
  omega (arith, all.1, length-set ss p s),
  subst (λ ts. IsApart (set ts u.0 u.1)) (sym (undone_last us p s ss)) all.2,
)

pub steps_last : {X : Type 0} (us : List (Step X)) (p : ℕ) (s : Option (Key × X)) (ss : Slots X) → AreSteps (us ++ (p, s) ∷ []) ss
    → AreSteps us (set ss p s) × (p < length ss) × IsApart (set ss p s)
steps_last [] p s ss all = (tt, all.1, all.2)
steps_last (u ∷ us) p s ss all =
    let r = steps_last us p s ss all.0 in (
      (r.0, omega (arith, all.1, length-set ss p s), subst (λ ts. IsApart (set ts u.0 u.1)) (undone_last us p s ss) all.2),
      r.1,
      r.2,
    )

-- an empty slot more at the end
undone_gap : {X : Type 0} (us : List (Step X)) (ss : Slots X) → AreSteps us ss → undone us (ss ++ None ∷ []) ≡ undone us ss ++ None ∷ []
undone_gap [] ss all = refl
undone_gap (u ∷ us) ss all =
    ap (λ ts. set ts u.0 u.1) (undone_gap us ss all.0) ∙ set_front (undone us ss) (None ∷ []) u.0 u.1 (omega (arith, all.1, length_undone us ss))

steps_gap : {X : Type 0} (us : List (Step X)) (ss : Slots X) → AreSteps us ss → AreSteps us (ss ++ None ∷ [])
steps_gap [] ss all = tt
steps_gap (u ∷ us) ss all = (
  steps_gap us ss all.0,
  omega (arith, all.1, length-append ss (None ∷ [])),
  subst (λ ts. IsApart ts) (sym (undone_gap (u ∷ us) ss all)) (apart_gap (set (undone us ss) u.0 u.1) all.2),
)

back : {X : Type 0} (ss : Slots X) (p : ℕ) (s : Option (Key × X)) → set (set ss p s) p (get_or ss p None) ≡ ss
back ss p s = set_twice ss p s (get_or ss p None) ∙ set-get_or ss p None

-- a slot is filled or emptied
pub put_steps : {X : Type 0} (o : Option (List (Step X))) (ss : Slots X) (p : ℕ) (s : Option (Key × X)) → p < length ss → IsApart ss
    → IfSome o (λ us. AreSteps us ss) → IfSome (noted o p (get_or ss p None)) (λ us. AreSteps us (set ss p s))
put_steps None ss p s lt a all = tt
put_steps (Some us) ss p s lt a all =
    steps_more us p (get_or ss p None) (set ss p s) (subst (λ ts. AreSteps us ts) (sym (back ss p s)) all) (omega (arith, lt, length-set ss p s)) (subst (λ ts. IsApart ts) (sym (back ss p s)) a)

pub put_before : {X : Type 0} (o : Option (List (Step X))) (ss : Slots X) (p : ℕ) (s : Option (Key × X))
    → before_of (noted o p (get_or ss p None)) (set ss p s) ≡ before_of o ss
put_before None ss p s = refl
put_before (Some us) ss p s =
    ap (λ ts. Some (filled ts)) (undone_last us p (get_or ss p None) (set ss p s) ∙ ap (undone us) (back ss p s))

-- a new slot is filled
pub push_steps : {X : Type 0} (o : Option (List (Step X))) (ss : Slots X) (e : Key × X) → IsApart ss
    → IfSome o (λ us. AreSteps us ss) → IfSome (noted o (length ss) None) (λ us. AreSteps us (ss ++ Some e ∷ []))
push_steps None ss e a all = tt
push_steps (Some us) ss e a all =
    steps_more us (length ss) None (ss ++ Some e ∷ []) (subst (λ ts. AreSteps us ts) (sym (set_end ss (Some e) None)) (steps_gap us ss all))
    (omega (arith, length-append ss (Some e ∷ []))) (subst (λ ts. IsApart ts) (sym (set_end ss (Some e) None)) (apart_gap ss a))

pub push_before : {X : Type 0} (o : Option (List (Step X))) (ss : Slots X) (e : Key × X)
    → IfSome o (λ us. AreSteps us ss) → before_of (noted o (length ss) None) (ss ++ Some e ∷ []) ≡ before_of o ss
push_before None ss e all = refl
push_before (Some us) ss e all =
    ap (λ ts. Some (filled ts)) (undone_last us (length ss) None (ss ++ Some e ∷ []) ∙ ap (undone us) (set_end ss (Some e) None) ∙ undone_gap us ss all)
    ∙ ap (λ es. Some es) (filled_gap (undone us ss))

-- the keys of all steps stand among the places
entered_more : {X : Type 0} (ps : Places) (us : List (Step X)) (p : ℕ) (s : Option (Key × X)) → AreEntered ps us → IsEntered ps s → AreEntered ps (us ++ (p, s) ∷ [])
entered_more ps [] p s all one = (one, tt)
entered_more ps (u ∷ us) p s all one = (all.0, entered_more ps us p s all.1 one)

pub entered_last : {X : Type 0} (ps : Places) (us : List (Step X)) (p : ℕ) (s : Option (Key × X)) → AreEntered ps (us ++ (p, s) ∷ []) → AreEntered ps us × IsEntered ps s
entered_last ps [] p s all = (tt, all.0)
entered_last ps (u ∷ us) p s all = let r = entered_last ps us p s all.1 in ((all.0, r.0), r.1)

entered_noted : {X : Type 0} (ps : Places) (o : Option (List (Step X))) (p : ℕ) (s : Option (Key × X)) → IfSome o (λ us. AreEntered ps us) → IsEntered ps s
    → IfSome (noted o p s) (λ us. AreEntered ps us)
entered_noted ps None p s all one = tt
entered_noted ps (Some us) p s all one = entered_more ps us p s all one

-- the keys that stand there stay
abbrev pub Stay : Places → Places → Type 0
Stay ps qs = (j : Key) → is_entered ps j ≡ true → is_entered qs j ≡ true

pub one_stays : {X : Type 0} (ps qs : Places) → Stay ps qs → (s : Option (Key × X)) → IsEntered ps s → IsEntered qs s
one_stays ps qs w None e = tt
one_stays ps qs w (Some x) e = w x.0 e

pub all_stay : {X : Type 0} (ps qs : Places) → Stay ps qs → (us : List (Step X)) → AreEntered ps us → AreEntered qs us
all_stay ps qs w [] e = tt
all_stay ps qs w (u ∷ us) e = (one_stays ps qs w u.1 e.0, all_stay ps qs w us e.1)

steps_stay : {X : Type 0} (ps qs : Places) → Stay ps qs → (o : Option (List (Step X))) → IfSome o (λ us. AreEntered ps us) → IfSome o (λ us. AreEntered qs us)
steps_stay ps qs w None e = tt
steps_stay ps qs w (Some us) e = all_stay ps qs w us e

-- so does the key of each slot
pub held_entered : (ps : Places) (k : Key) (i : ℕ) → held ps k ≡ Some i → is_entered ps k ≡ true
held_entered ps k i e = go (lookup (same_key k) ps) e
  where
    go : (o : Option (Option ℕ)) → option_flatten o ≡ Some i → is_some o ≡ true
    go None e = absurd cc
    go (Some x) e = refl

get_there : {X : Type 0} (ss : Slots X) (i : ℕ) (e : Key × X) → get_or ss i None ≡ Some e → slice_get ss i ≡ Some (Some e)
get_there [] i e h = absurd cc
get_there (x ∷ ss) zero e h = ap (λ z. Some z) h
get_there (x ∷ ss) (suc i) e h = get_there ss i e h

slot_entered : {X : Type 0} (ss : Slots X) (ps : Places) (n i : ℕ) → IsSlotted ss ps n → IsEntered ps (get_or ss i None)
slot_entered {X = X} ss ps n i s = go (get_or ss i None) refl
  where
    go : (o : Option (Key × X)) → get_or ss i None ≡ o → IsEntered ps o
    go None h = tt
    go (Some e) h = held_entered ps e.0 i (s.found e.0 ∙ leads_back ss i e s.apart (get_there ss i e h))

-- A template comes back into its slot.
place_in : {X : Type 0} (k : Key) (t : X) (j : Key) (ss : Slots X) (i : ℕ) → i < length ss → IsApart (set ss i (Some (k, t)))
    → place_of j (set ss i (Some (k, t))) ≡ cond (same_key k j) (Some i) (place_of j (set ss i None))
place_in k t j [] i lt a = absurd (omega (arith, lt))
place_in k t j (s ∷ ss) zero lt a = ap (λ b. cond b (Some 0) (option_map suc (place_of j ss))) (turned j k)
place_in k t j (None ∷ ss) (suc i) lt a = ap (option_map suc) (place_in k t j ss i (omega (arith, lt)) a) ∙ deeper (same_key k j) (place_of j (set ss i None)) i
place_in k t j (Some x ∷ ss) (suc i) lt a =
    let others = miss (same_key k x.0) i (place_of x.0 (set ss i None)) (sym (place_in k t x.0 ss i (omega (arith, lt)) a.1) ∙ a.0) in
    go (same_key j x.0) refl (same_key k j) refl others.0 (ap (option_map suc) (place_in k t j ss i (omega (arith, lt)) a.1) ∙ deeper (same_key k j) (place_of j (set ss i None)) i)
  where
    go : (b : Bool) → same_key j x.0 ≡ b → (c : Bool) → same_key k j ≡ c → same_key k x.0 ≡ false
        → option_map suc (place_of j (set ss i (Some (k, t)))) ≡ cond (same_key k j) (Some (suc i)) (option_map suc (place_of j (set ss i None)))
        → cond b (Some 0) (option_map suc (place_of j (set ss i (Some (k, t))))) ≡ cond c (Some (suc i)) (cond b (Some 0) (option_map suc (place_of j (set ss i None))))
    go true q true r p h = clash (same_key k x.0) (on k j x.0 r q) p
    go true q false r p h = refl
    go false q c r p h = h ∙ ap (λ b. cond b (Some (suc i)) (option_map suc (place_of j (set ss i None)))) r

pub alone : {X : Type 0} (k : Key) (t : X) (ss : Slots X) (i : ℕ) → i < length ss → IsApart (set ss i (Some (k, t))) → place_of k (set ss i None) ≡ None
alone k t [] i lt a = absurd (omega (arith, lt))
alone k t (s ∷ ss) zero lt a = ap (option_map suc) a.0
alone k t (None ∷ ss) (suc i) lt a = ap (option_map suc) (alone k t ss i (omega (arith, lt)) a)
alone k t (Some x ∷ ss) (suc i) lt a =
    let others = miss (same_key k x.0) i (place_of x.0 (set ss i None)) (sym (place_in k t x.0 ss i (omega (arith, lt)) a.1) ∙ a.0) in
    ap (λ b. cond b (Some 0) (option_map suc (place_of k (set ss i None)))) others.0 ∙ ap (option_map suc) (alone k t ss i (omega (arith, lt)) a.1)

count_in : {X : Type 0} (e : Key × X) (ss : Slots X) (i : ℕ) → i < length ss → length (filled (set ss i (Some e))) ≡ suc (length (filled (set ss i None)))
count_in e [] i lt = absurd (omega (arith, lt))
count_in e (s ∷ ss) zero lt = refl
count_in e (None ∷ ss) (suc i) lt = count_in e ss i (omega (arith, lt))
count_in e (Some x ∷ ss) (suc i) lt = ap suc (count_in e ss i (omega (arith, lt)))

pub slotted_in : {X : Type 0} (k : Key) (t : X) (ss : Slots X) (ps qs : Places) (m n i : ℕ) → i < length ss → IsApart (set ss i (Some (k, t))) → IsSlotted (set ss i None) ps m
    → ((j : Key) → held qs j ≡ cond (same_key k j) (Some i) (held ps j)) → length qs ≡ length ps → n ≡ m + 1 → IsSlotted (set ss i (Some (k, t))) qs n
slotted_in k t ss ps qs m n i lt a s u keys more = record {
  found = λ j. u j ∙ ap (λ o. cond (same_key k j) (Some i) o) (s.found j) ∙ sym (place_in k t j ss i lt a);
  apart = a;
  counted = omega (arith, more, s.counted, count_in (k, t) ss i lt);
  few = omega (arith, s.few, keys, length-set ss i None, length-set ss i (Some (k, t)));
}

-- where no steps are noted
pub no_before : {V X : Type 0} (items : V → List (Step X)) (o : Option V) (ss ts : Slots X) → is_some o ≡ false → before_of (option_map items o) ss ≡ before_of (option_map items o) ts
no_before items None ss ts e = refl
no_before items (Some v) ss ts e = absurd cc

pub no_steps : {V X : Type 0} (items : V → List (Step X)) (o : Option V) (P : List (Step X) → Type 0) → is_some o ≡ false → IfSome (option_map items o) P
no_steps items None P e = tt
no_steps items (Some v) P e = absurd cc

module _ {X : Type 0} where
  -- the same slots and steps
  pub kept_as : (ss ts : Slots X) (qs : Places) (n : ℕ) (o p : Option (List (Step X))) → ts ≡ ss → p ≡ o → IsKept ss qs n o → IsKept ts qs n p
  kept_as ss ts qs n o p a b k = record {
    slotted = subst (λ us. IsSlotted us qs n) (sym a) k.slotted;
    steps_back = subst (λ (q : Option (List (Step X))). IfSome q (λ us. AreSteps us ts)) (sym b) (subst (λ zs. IfSome o (λ us. AreSteps us zs)) (sym a) k.steps_back);
    entered = subst (λ (q : Option (List (Step X))). IfSome q (λ us. AreEntered qs us)) (sym b) k.entered;
  }

  -- the same entries
  pub kept_same : (ss : Slots X) (ps qs : Places) (n : ℕ) (o : Option (List (Step X))) → qs ≡ ps → IsKept ss ps n o → IsKept ss qs n o
  kept_same ss ps qs n o a k = subst (λ (rs : Places). IsKept ss rs n o) (sym a) k

  pub kept_put : (k : Key) (t : X) (ss : Slots X) (ps : Places) (n : ℕ) (o : Option (List (Step X))) (i : ℕ) → IsKept ss ps n o → place_of k ss ≡ Some i
      → IsKept (set ss i (Some (k, t))) ps n (noted o i (get_or ss i None))
  kept_put k t ss ps n o i s e = record {
    slotted = slotted_put k t ss ps n i s.slotted e;
    steps_back = put_steps o ss i (Some (k, t)) (stands k ss i e).within s.slotted.apart s.steps_back;
    entered = entered_noted ps o i (get_or ss i None) s.entered (slot_entered ss ps n i s.slotted);
  }

  pub kept_out : (k : Key) (ss : Slots X) (ps qs : Places) (m n : ℕ) (o : Option (List (Step X))) (i : ℕ) → IsKept ss ps m o → place_of k ss ≡ Some i
      → ((j : Key) → held qs j ≡ cond (same_key k j) None (held ps j)) → Stay ps qs → length qs ≡ length ps → n + 1 ≡ m
      → IsKept (set ss i None) qs n (noted o i (get_or ss i None))
  kept_out k ss ps qs m n o i s e u w keys less = record {
    slotted = slotted_out k ss ps qs m n i s.slotted e u keys less;
    steps_back = put_steps o ss i None (stands k ss i e).within s.slotted.apart s.steps_back;
    entered = entered_noted qs o i (get_or ss i None) (steps_stay ps qs w o s.entered) (one_stays ps qs w (get_or ss i None) (slot_entered ss ps m i s.slotted));
  }

  pub kept_push : (k : Key) (t : X) (ss : Slots X) (ps qs : Places) (m n : ℕ) (o : Option (List (Step X))) (i : ℕ) → IsKept ss ps m o → place_of k ss ≡ None → i ≡ length ss
      → ((j : Key) → held qs j ≡ cond (same_key k j) (Some (length ss)) (held ps j)) → Stay ps qs → length qs ≤ length ps + 1 → n ≡ m + 1
      → IsKept (ss ++ Some (k, t) ∷ []) qs n (noted o i None)
  kept_push k t ss ps qs m n o i s e at u w keys more = subst (λ j. IsKept (ss ++ Some (k, t) ∷ []) qs n (noted o j None)) (sym at) (record {
    slotted = slotted_push k t ss ps qs m n s.slotted e u keys more;
    steps_back = push_steps o ss (k, t) s.slotted.apart s.steps_back;
    entered = entered_noted qs o (length ss) None (steps_stay ps qs w o s.entered) tt;
  })

  pub before_put : (o p q : Option (List (Step X))) (ss ts : Slots X) (i : ℕ) (s : Option (Key × X)) → q ≡ noted p i (get_or ss i None) → ts ≡ set ss i s → p ≡ o
      → before_of q ts ≡ before_of o ss
  before_put o p q ss ts i s a b c =
      ap (λ (r : Option (List (Step X))). before_of r ts) a ∙ ap (before_of (noted p i (get_or ss i None))) b ∙ put_before p ss i s ∙ ap (λ (r : Option (List (Step X))). before_of r ss) c

  pub before_push : (o p q : Option (List (Step X))) (ss ts : Slots X) (i : ℕ) (e : Key × X) → q ≡ noted p i None → i ≡ length ss → ts ≡ ss ++ Some e ∷ [] → p ≡ o
      → IfSome p (λ us. AreSteps us ss) → before_of q ts ≡ before_of o ss
  before_push o p q ss ts i e a at b c all =
      ap (λ (r : Option (List (Step X))). before_of r ts) (a ∙ ap (λ j. noted p j None) at) ∙ ap (before_of (noted p (length ss) None)) b ∙ push_before p ss e all
      ∙ ap (λ (r : Option (List (Step X))). before_of r ss) c

  -- an empty slot
  pub emptied : (ss : Slots X) (ps : Places) (n i : ℕ) → slice_get ss i ≡ Some None → IsSlotted ss ps n → IsSlotted (set ss i None) ps n
  emptied ss ps n i e s = subst (λ zs. IsSlotted zs ps n) (sym (ap (set ss i) (sym (get_or_from_slice_get ss i None None e)) ∙ set-get_or ss i None)) s

  -- the last step is taken back
  pub kept_back : (us : List (Step X)) (p : ℕ) (s : Option (Key × X)) (ss : Slots X) (qs : Places) (n : ℕ) → AreSteps (us ++ (p, s) ∷ []) ss → IsSlotted (set ss p s) qs n → AreEntered qs us
      → IsKept (set ss p s) qs n (Some us)
  kept_back us p s ss qs n all slotted entered = record { slotted = slotted; steps_back = (steps_last us p s ss all).0; entered = entered }
