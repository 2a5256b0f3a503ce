-- The extents of the templates of a domain and kind.
use Rattle.std.proofs.Common.{◌≡◌, Bool, ℕ, zero, suc, ◌<◌, ◌≤◌, ◌==◌, ◌&&◌, not, true, false, cond, List, [], ◌∷◌, ◌++◌, length, get_or, set, Option, Some, None, IfSome, ◌⊎◌, inl, inr, refl, sym, ap, ap₂, subst, ◌∙◌, arith}
use Rattle.std.specs.Prelude.{filter, slice_get}
use Rattle.std.specs.Option.{is_some}
use Rattle.std.proofs.lemmas.Bool.Decides.{nat_tests}
use Rattle.std.proofs.lemmas.Option.{slice_get-get_or}
use Rattle.std.specs.Map.{lookup}
use mathlib.Core.Bool.{beq}
use Rattle.tca_templates.specs.declared.template.Template.{Template}
use Rattle.tca_templates.specs.declared.ids.Ids.{Ids}
use Rattle.tca_templates.specs.Templates.{Key}
use Rattle.tca_templates.specs.inside.Slotted.{place_of, IsApart, Step, noted, Kind, same_kind, StandsFrom, IsAhead, IsAmong, IsListed, IsNoted, AreNoted, IsCovered}
use Rattle.tca_templates.proofs.Stored.{stays_there}
use Rattle.tca_templates.proofs.SlotLaws.{leads_back}

abbrev Slots : Type 0
Slots = List (Option (Key × Template))

abbrev Kinds : Type 0
Kinds = List (Kind × Ids)

-- what a withdrawal of all went over it goes over still
abbrev pub AreAhead : Kinds → Kinds → Type 0
AreAhead xs ys = (k : Kind) (i : ℕ) → IsAhead (lookup (same_kind k) xs) i → IsAhead (lookup (same_kind k) ys) i

-- what was listed is listed still
abbrev pub AreAmong : Kinds → Kinds → Type 0
AreAmong xs ys = (k : Kind) (i : ℕ) → IsAmong (lookup (same_kind k) xs) i → IsAmong (lookup (same_kind k) ys) i

pub among : (l : Option Ids) (i : ℕ) → IsAhead l i → IsAmong l i
among None i a = absurd a
among (Some l) i a = (a.0, omega arith, a.2)

listed_noted : (xs : Kinds) (s : Option (Key × Template)) → IsListed xs s → IsNoted xs s
listed_noted xs None l = tt
listed_noted xs (Some e) l = among (lookup (same_kind (e.0.0, e.1.options)) xs) e.0.1 l

pub listed_ahead : (xs ys : Kinds) → AreAhead xs ys → (s : Option (Key × Template)) → IsListed xs s → IsListed ys s
listed_ahead xs ys w None l = tt
listed_ahead xs ys w (Some e) l = w (e.0.0, e.1.options) e.0.1 l

noted_among : (xs ys : Kinds) → AreAmong xs ys → (s : Option (Key × Template)) → IsNoted xs s → IsNoted ys s
noted_among xs ys w None l = tt
noted_among xs ys w (Some e) l = w (e.0.0, e.1.options) e.0.1 l

steps_among : (xs ys : Kinds) → AreAmong xs ys → (us : List (Step Template)) → AreNoted xs us → AreNoted ys us
steps_among xs ys w [] l = tt
steps_among xs ys w (u ∷ us) l = (noted_among xs ys w u.1 l.0, steps_among xs ys w us l.1)

pub steps_still : (xs ys : Kinds) → AreAmong xs ys → (o : Option (List (Step Template))) → IfSome o (λ us. AreNoted xs us) → IfSome o (λ us. AreNoted ys us)
steps_still xs ys w None l = tt
steps_still xs ys w (Some us) l = steps_among xs ys w us l

pub covered_ahead : (ss : Slots) (xs ys : Kinds) (o : Option (List (Step Template))) → AreAhead xs ys → AreAmong xs ys → IsCovered ss xs o → IsCovered ss ys o
covered_ahead ss xs ys o w v c = record { slots_in = λ i s e. listed_ahead xs ys w s (c.slots_in i s e); steps_in = steps_still xs ys v o c.steps_in }

-- the same slots and steps
pub covered_as : (ss ts : Slots) (xs : Kinds) (o p : Option (List (Step Template))) → ts ≡ ss → p ≡ o → IsCovered ss xs o → IsCovered ts xs p
covered_as ss ts xs o p a b c = subst (λ (q : Option (List (Step Template))). IsCovered ts xs q) (sym b) (subst (λ (zs : Slots). IsCovered zs xs o) (sym a) c)

steps_more : (xs : Kinds) (us : List (Step Template)) (p : ℕ) (s : Option (Key × Template)) → AreNoted xs us → IsNoted xs s → AreNoted xs (us ++ (p, s) ∷ [])
steps_more xs [] p s all l = (l, tt)
steps_more xs (u ∷ us) p s all l = (all.0, steps_more xs us p s all.1 l)

noted_last : (xs : Kinds) (us : List (Step Template)) (p : ℕ) (s : Option (Key × Template)) → AreNoted xs (us ++ (p, s) ∷ []) → AreNoted xs us × IsNoted xs s
noted_last xs [] p s all = (tt, all.0)
noted_last xs (u ∷ us) p s all = let r = noted_last xs us p s all.1 in ((all.0, r.0), r.1)

noted_in : (xs : Kinds) (o : Option (List (Step Template))) (p : ℕ) (s : Option (Key × Template)) → IfSome o (λ us. AreNoted xs us) → IsNoted xs s → IfSome (noted o p s) (λ us. AreNoted xs us)
noted_in xs None p s all l = tt
noted_in xs (Some us) p s all l = steps_more xs us p s all l

get_set : {Y : Type 0} (ss : List Y) (p i : ℕ) (s r : Y) → slice_get (set ss p s) i ≡ Some r → ((i ≡ p) × (s ≡ r)) ⊎ (slice_get ss i ≡ Some r)
get_set [] p i s r e = inr e
get_set (x ∷ ss) zero zero s r e = inl (refl, cc)
get_set (x ∷ ss) zero (suc i) s r e = inr e
get_set (x ∷ ss) (suc p) zero s r e = inr e
get_set (x ∷ ss) (suc p) (suc i) s r e = elim (get_set ss p i s r e) [ inl w ↦ inl (ap suc w.0, w.1) | inr w ↦ inr w ]

get_last : {Y : Type 0} (ss : List Y) (i : ℕ) (s r : Y) → slice_get (ss ++ s ∷ []) i ≡ Some r → ((i ≡ length ss) × (s ≡ r)) ⊎ (slice_get ss i ≡ Some r)
get_last [] zero s r e = inl (refl, cc)
get_last [] (suc i) s r e = absurd cc
get_last (x ∷ ss) zero s r e = inr e
get_last (x ∷ ss) (suc i) s r e = elim (get_last ss i s r e) [ inl w ↦ inl (ap suc w.0, w.1) | inr w ↦ inr w ]

listed_there : (xs : Kinds) (s r : Option (Key × Template)) → s ≡ r → IsListed xs s → IsListed xs r
listed_there xs s r b l = subst (λ (z : Option (Key × Template)). IsListed xs z) b l

-- a slot is filled or emptied
pub set_in : (ss : Slots) (xs : Kinds) (p : ℕ) (s : Option (Key × Template)) → ((i : ℕ) (r : Option (Key × Template)) → slice_get ss i ≡ Some r → IsListed xs r) → IsListed xs s
    → (i : ℕ) (r : Option (Key × Template)) → slice_get (set ss p s) i ≡ Some r → IsListed xs r
set_in ss xs p s all l i r e = elim (get_set ss p i s r e) [ inl w ↦ listed_there xs s r w.1 l | inr w ↦ all i r w ]

pub covered_put : (ss ts : Slots) (xs : Kinds) (o q r : Option (List (Step Template))) (p : ℕ) (s : Option (Key × Template)) → ts ≡ set ss p s → r ≡ noted q p (get_or ss p None) → q ≡ o → p < length ss
    → IsCovered ss xs o → IsListed xs s → IsCovered ts xs r
covered_put ss ts xs o q r p s a b same lt c l =
    covered_as (set ss p s) ts xs (noted q p (get_or ss p None)) r a b (record {
      slots_in = set_in ss xs p s c.slots_in l;
      steps_in = noted_in xs q p (get_or ss p None) (subst (λ (z : Option (List (Step Template))). IfSome z (λ us. AreNoted xs us)) (sym same) c.steps_in)
          (listed_noted xs (get_or ss p None) (c.slots_in p (get_or ss p None) (slice_get-get_or ss p None lt)));
    })

-- the last step is taken back, which empties a slot
pub covered_back : (ss : Slots) (xs : Kinds) (us vs : List (Step Template)) (p : ℕ) → vs ≡ us ++ (p, None) ∷ [] → IsCovered ss xs (Some vs) → IsCovered (set ss p None) xs (Some us)
covered_back ss xs us vs p e c = record {
  slots_in = set_in ss xs p None c.slots_in tt;
  steps_in = (noted_last xs us p None (subst (λ (ws : List (Step Template)). AreNoted xs ws) e c.steps_in)).0;
}

-- the last step is taken back, and a template comes back
pub covered_again : (ss : Slots) (xs ys : Kinds) (us vs : List (Step Template)) (p : ℕ) (e : Key × Template) → vs ≡ us ++ (p, Some e) ∷ [] → AreAhead xs ys → AreAmong xs ys
    → ((i : ℕ) → IsAmong (lookup (same_kind (e.0.0, e.1.options)) xs) i → IsAhead (lookup (same_kind (e.0.0, e.1.options)) ys) i)
    → IsCovered ss xs (Some vs) → IsCovered (set ss p (Some e)) ys (Some us)
covered_again ss xs ys us vs p e is w v all c =
    let l = noted_last xs us p (Some e) (subst (λ (ws : List (Step Template)). AreNoted xs ws) is c.steps_in) in
    record {
      slots_in = set_in ss ys p (Some e) (λ i s here. listed_ahead xs ys w s (c.slots_in i s here)) (all e.0.1 l.1);
      steps_in = steps_among xs ys v us l.0;
    }

-- a new slot
pub push_in : (ss : Slots) (xs : Kinds) (s : Option (Key × Template)) → ((i : ℕ) (r : Option (Key × Template)) → slice_get ss i ≡ Some r → IsListed xs r) → IsListed xs s
    → (i : ℕ) (r : Option (Key × Template)) → slice_get (ss ++ s ∷ []) i ≡ Some r → IsListed xs r
push_in ss xs s all l i r e = elim (get_last ss i s r e) [ inl w ↦ listed_there xs s r w.1 l | inr w ↦ all i r w ]

pub covered_push : (ss ts : Slots) (xs : Kinds) (o q r : Option (List (Step Template))) (p : ℕ) (s : Option (Key × Template)) → ts ≡ ss ++ s ∷ [] → r ≡ noted q p None → q ≡ o
    → IsCovered ss xs o → IsListed xs s → IsCovered ts xs r
covered_push ss ts xs o q r p s a b same c l =
    covered_as (ss ++ s ∷ []) ts xs (noted q p None) r a b (record {
      slots_in = push_in ss xs s c.slots_in l;
      steps_in = noted_in xs q p None (subst (λ (z : Option (List (Step Template))). IfSome z (λ us. AreNoted xs us)) (sym same) c.steps_in) tt;
    })

-- the slots that aren't empty
pub full_in : (ss : Slots) (xs : Kinds) → ((i : ℕ) (r : Option (Key × Template)) → slice_get ss i ≡ Some r → IsListed xs r)
    → (i : ℕ) (r : Option (Key × Template)) → slice_get (filter is_some ss) i ≡ Some r → IsListed xs r
full_in [] xs all i r e = absurd cc
full_in (None ∷ ss) xs all i r e = full_in ss xs (λ j. all (suc j)) i r e
full_in (Some x ∷ ss) xs all zero r e = all 0 r e
full_in (Some x ∷ ss) xs all (suc i) r e = full_in ss xs (λ j. all (suc j)) i r e

-- Which templates are of a domain and kind.
same_bool : (a b : Bool) → beq a b ≡ true → a ≡ b
same_bool true true e = refl
same_bool false false e = refl
same_bool true false e = absurd cc
same_bool false true e = absurd cc

both : (a b : Bool) → not (a && b) ≡ false → (a ≡ true) × (b ≡ true)
both true true e = (refl, refl)
both true false e = absurd cc
both false b e = absurd cc

and_both : (a b : Bool) → (a && b) ≡ true → (a ≡ true) × (b ≡ true)
and_both true true e = (refl, refl)
and_both true false e = absurd cc
and_both false b e = absurd cc

self_bool : (a : Bool) → beq a a ≡ true
self_bool true = refl
self_bool false = refl

same_number : (m n : ℕ) → (m == n) ≡ true → m ≡ n
same_number m n e = grind (arith, nat_tests, e)

of_kind : (m n : ℕ) (a b : Bool) → not ((m == n) && beq a b) ≡ false → (m ≡ n) × (a ≡ b)
of_kind m n a b e = let w = both (m == n) (beq a b) e in (same_number m n w.0, same_bool a b w.1)

turned_bool : (a b : Bool) → beq a b ≡ beq b a
turned_bool true true = refl
turned_bool true false = refl
turned_bool false true = refl
turned_bool false false = refl

turned_number : (m n : ℕ) → (m == n) ≡ (n == m)
turned_number m n = grind (arith, nat_tests)

other : (a : Bool) → not a ≡ true → a ≡ false
other true e = absurd cc
other false e = refl

pub of_others : (m n : ℕ) (a b : Bool) → not ((m == n) && beq a b) ≡ true → ((n == m) && beq b a) ≡ false
of_others m n a b e = ap₂ (λ (x y : Bool). x && y) (turned_number n m) (turned_bool b a) ∙ other ((m == n) && beq a b) e

pub kind_is : (a b : Kind) → same_kind a b ≡ true → a ≡ b
kind_is a b e =
    let w = and_both (a.0 == b.0) (beq a.1 b.1) e in
    let kind : ℕ → Bool → Kind = λ m o. (m, o) in
    ap₂ kind (same_number a.0 b.0 w.0) (same_bool a.1 b.1 w.1)

pub kind_self : (a : Kind) → same_kind a a ≡ true
kind_self a =
    let m : (a.0 == a.0) ≡ true = grind (arith, nat_tests) in
    ap (λ x. x && beq a.1 a.1) m ∙ self_bool a.1

-- the list of one kind is exchanged
pub ahead_one : (kind : Kind) (xs ys : Kinds) (x : Ids) → ((k : Kind) → lookup (same_kind k) ys ≡ cond (same_kind kind k) (Some x) (lookup (same_kind k) xs))
    → ((i : ℕ) → IsAhead (lookup (same_kind kind) xs) i → IsAhead (Some x) i) → AreAhead xs ys
ahead_one kind xs ys x u w k i ahead = subst (λ (o : Option Ids). IsAhead o i) (sym (u k)) (go (same_kind kind k) refl)
  where
    go : (b : Bool) → same_kind kind k ≡ b → IsAhead (cond b (Some x) (lookup (same_kind k) xs)) i
    go true e = w i (subst (λ (o : Option Ids). IsAhead o i) (ap (λ (j : Kind). lookup (same_kind j) xs) (sym (kind_is kind k e))) ahead)
    go false e = ahead

pub among_one : (kind : Kind) (xs ys : Kinds) (x : Ids) → ((k : Kind) → lookup (same_kind k) ys ≡ cond (same_kind kind k) (Some x) (lookup (same_kind k) xs))
    → ((i : ℕ) → IsAmong (lookup (same_kind kind) xs) i → IsAmong (Some x) i) → AreAmong xs ys
among_one kind xs ys x u w k i listed = subst (λ (o : Option Ids). IsAmong o i) (sym (u k)) (go (same_kind kind k) refl)
  where
    go : (b : Bool) → same_kind kind k ≡ b → IsAmong (cond b (Some x) (lookup (same_kind k) xs)) i
    go true e = w i (subst (λ (o : Option Ids). IsAmong o i) (ap (λ (j : Kind). lookup (same_kind j) xs) (sym (kind_is kind k e))) listed)
    go false e = listed

pub one_is : (kind : Kind) (xs ys : Kinds) (x : Ids) → ((k : Kind) → lookup (same_kind k) ys ≡ cond (same_kind kind k) (Some x) (lookup (same_kind k) xs)) → Some x ≡ lookup (same_kind kind) ys
one_is kind xs ys x u = sym (u kind ∙ ap (λ b. cond b (Some x) (lookup (same_kind kind) xs)) (kind_self kind))

-- one more ID
more_get : (ids : List ℕ) (id i n : ℕ) → slice_get ids i ≡ Some n → slice_get (ids ++ id ∷ []) i ≡ Some n
more_get [] id i n e = absurd cc
more_get (x ∷ ids) id zero n e = e
more_get (x ∷ ids) id (suc i) n e = more_get ids id i n e

last_get : (ids : List ℕ) (id : ℕ) → slice_get (ids ++ id ∷ []) (length ids) ≡ Some id
last_get [] id = refl
last_get (x ∷ ids) id = last_get ids id

pub stands_more : (from id i : ℕ) (ids jds : List ℕ) → jds ≡ ids ++ id ∷ [] → StandsFrom from ids i → StandsFrom from jds i
stands_more from id i ids jds e s = subst (λ (ks : List ℕ). StandsFrom from ks i) (sym e) (s.0, s.1, more_get ids id s.0 i s.2)

pub stands_last : (from id : ℕ) (ids jds : List ℕ) → jds ≡ ids ++ id ∷ [] → from ≤ length ids → StandsFrom from jds id
stands_last from id ids jds e le = subst (λ (ks : List ℕ). StandsFrom from ks id) (sym e) (length ids, le, last_get ids id)

-- the template of a key is of another kind
pub beq_is : (a b : Bool) → beq a b ≡ true → a ≡ b
beq_is a b e = same_bool a b e

pub is_beq : (a b : Bool) → a ≡ b → beq a b ≡ true
is_beq a b e = ap (beq a) (sym e) ∙ self_bool a

pub isnt_beq : (a b : Bool) → (a ≡ b → ⊥) → beq a b ≡ false
isnt_beq true true n = absurd (n refl)
isnt_beq false false n = absurd (n refl)
isnt_beq true false n = refl
isnt_beq false true n = refl

pub unlike : (a b : Bool) → beq a b ≡ false → a ≡ b → ⊥
unlike a b e is =
    let bad : true ≡ false = sym (self_bool b) ∙ ap (λ (x : Bool). beq x b) (sym is) ∙ e in
    absurd cc

pub none_there : (k : Key) (ss : Slots) → IsApart ss → place_of k ss ≡ None → (i : ℕ) (t : Template) → slice_get ss i ≡ Some (Some (k, t)) → ⊥
none_there k ss a none i t here =
    let bad : None ≡ Some i = sym none ∙ leads_back ss i (k, t) a here in
    absurd cc

pub some_is : (m n : ℕ) → Some m ≡ Some n → m ≡ n
some_is m n e = cc

pub next : (n i : ℕ) → n < suc i → (n < i) ⊎ (n ≡ i)
next zero zero lt = inr refl
next zero (suc i) lt = inl (omega arith)
next (suc n) zero lt = absurd (omega (arith, lt))
next (suc n) (suc i) lt = elim (next n i (omega (arith, lt))) [ inl w ↦ inl (omega (arith, w)) | inr w ↦ inr (ap suc w) ]

pub one_there : (k : Key) (ss : Slots) (p : ℕ) (x : Key × Template) → IsApart ss → place_of k ss ≡ Some p → slice_get ss p ≡ Some (Some x)
    → (i : ℕ) (t : Template) → slice_get ss i ≡ Some (Some (k, t)) → t ≡ x.1
one_there k ss p x a place there i t here =
    let same : i ≡ p = some_is i p (sym (leads_back ss i (k, t) a here) ∙ place) in
    let one : Key × Template = (k, t) in
    let two : Some (Some one) ≡ Some (Some x) = sym here ∙ ap (slice_get ss) same ∙ there in
    let is : one ≡ x = cc in
    ap (λ (z : Key × Template). z.1) is

-- a template that a withdrawal of all doesn't go over is of another domain or kind
pub passes : (xs : Kinds) (domain : ℕ) (options : Bool) (e : Key × Template) → IsListed xs (Some e)
    → (IsAhead (lookup (same_kind (domain, options)) xs) e.0.1 → e.0.0 ≡ domain → stays_there domain options e ≡ true) → stays_there domain options e ≡ true
passes xs domain options e l out = go (stays_there domain options e) refl
  where
    go : (b : Bool) → stays_there domain options e ≡ b → stays_there domain options e ≡ true
    go true q = q
    go false q =
        let w = of_kind e.0.0 domain e.1.options options q in
        let kind : ℕ → Bool → Kind = λ m a. (m, a) in
        let is : kind e.0.0 e.1.options ≡ kind domain options = ap₂ kind w.0 w.1 in
        out (subst (λ (k : Kind). IsAhead (lookup (same_kind k) xs) e.0.1) is l) w.0

-- a withdrawal of all passes over what is listed of the kind
pub passed_over : (ss : Slots) (xs ys : Kinds) (domain : ℕ) (options : Bool) → ((i : ℕ) (r : Option (Key × Template)) → slice_get ss i ≡ Some r → IsListed xs r)
    → ((j : ℕ) (e : Key × Template) → slice_get ss j ≡ Some (Some e) → stays_there domain options e ≡ true)
    → ((k : Kind) → same_kind (domain, options) k ≡ false → lookup (same_kind k) ys ≡ lookup (same_kind k) xs)
    → (i : ℕ) (r : Option (Key × Template)) → slice_get ss i ≡ Some r → IsListed ys r
passed_over ss xs ys domain options all gone u i None here = tt
passed_over ss xs ys domain options all gone u i (Some e) here =
    let apart = of_others e.0.0 domain e.1.options options (gone i e here) in
    subst (λ (o : Option Ids). IsAhead o e.0.1) (sym (u (e.0.0, e.1.options) apart)) (all i (Some e) here)

-- a template under its own key
pub leaves : (domain : ℕ) (options : Bool) (ss : Slots) (e : Key × Template) (j : ℕ) → e.0.0 ≡ domain → slice_get ss j ≡ Some (Some e)
    → ((i : ℕ) (t : Template) → slice_get ss i ≡ Some (Some ((domain, e.0.1), t)) → stays_there domain options ((domain, e.0.1), t) ≡ true) → stays_there domain options e ≡ true
leaves domain options ss e j same here all =
    let with_domain : ℕ → Key × Template = λ d. ((d, e.0.1), e.1) in
    let is : e ≡ ((domain, e.0.1), e.1) = ap with_domain same in
    ap (stays_there domain options) is ∙ all j e.1 (here ∙ ap (λ z. Some (Some z)) is)

-- what is left once a slot was emptied
pub put_gone : (ss ts : Slots) (p j : ℕ) (e : Key × Template) → ts ≡ set ss p None → slice_get ts j ≡ Some (Some e) → slice_get ss j ≡ Some (Some e)
put_gone ss ts p j e is here = elim (get_set ss p j None (Some e) (ap (λ (zs : Slots). slice_get zs j) (sym is) ∙ here)) [
  | inl w ↦ let bad : None ≡ Some e = w.1 in absurd cc
  | inr w ↦ w
]

-- and isn't there
pub stays_out : (ss ts : Slots) (p j : ℕ) (e : Key × Template) → ts ≡ set ss p None → p < length ss → slice_get ts j ≡ Some (Some e) → j ≡ p → ⊥
stays_out ss ts p j e is lt here at = go ss p lt (ap (λ (zs : Slots). slice_get zs p) (sym is) ∙ ap (slice_get ts) (sym at) ∙ here)
  where
    go : (zs : Slots) (i : ℕ) → i < length zs → slice_get (set zs i None) i ≡ Some (Some e) → ⊥
    go [] i lt there = absurd (omega (arith, lt))
    go (z ∷ zs) zero lt there = absurd cc
    go (z ∷ zs) (suc i) lt there = go zs i (omega (arith, lt)) there
