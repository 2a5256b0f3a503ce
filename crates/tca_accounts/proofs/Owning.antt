-- Entering the pairs of accounts one by one.
use Rattle.std.proofs.Common.{◌≡◌, ℕ, zero, ◌+◌, ◌<◌, ◌⊎◌, inl, inr, Bool, true, false, ◌&&◌, ◌||◌, not, cond, eqb, List, [], ◌∷◌, ◌++◌, length, map, Option, Some, None, IfSome, suc, is_none, refl, sym, ap, ap₂, drop, get_or, slice_get, add-one, append_assoc, ◌∙◌, arith}
use Rattle.std.proofs.lemmas.Bool.Decides.{nat_tests}
use Rattle.std.proofs.lemmas.Bool.{cases_eq, cases_Bool, eq-eqb, false≢true, ne_eqb}
use Rattle.std.proofs.Math.ListN.{length-set, set}
use Rattle.std.proofs.lemmas.List.{get_or-set_other}
use Rattle.std.proofs.lemmas.Grind.{get_or-set_at}
use Rattle.std.proofs.lemmas.Cmp.{ranked}
use Rattle.std.proofs.Math.Seq.{drop-cons}
use Rattle.std.specs.List.{list_all, list_any, position_from}
use Rattle.std.specs.BTreeMap.{is_at}
use Rattle.std.specs.Str.{bytes_eq}
use Rattle.std.specs.Ordering.{nat_cmp, ordering_then, is_eq, MatchOrdering}
use Rattle.std.specs.declared.cmp.Ordering.{Ordering}
use Rattle.std.specs.declared.cmp.Ordering.TheVariants.{Less, Equal, Greater}
use Rattle.tca_accounts.specs.Plans.{PlannedAccount, all_differ, all_pairs, are_distinct, owns, same_pair}
use Rattle.tca_accounts.specs.inside.Owners.{AreOwners, AreSlots, Gains, GoesOn, Tells, slot_of, IsTwice, are_new, or_else, owned, owner_among, owner_in, owner_then, pair_cmp}

abbrev Pair : Type 0
Pair = ℕ × ℕ

abbrev Owned : Type 0
Owned = List (Pair × ℕ)

then_eq : (o p : Ordering) → is_eq (ordering_then o p) ≡ is_eq o && is_eq p
then_eq Less p = refl
then_eq Equal p = refl
then_eq Greater p = refl

nat_eq_by : (a b : ℕ) (o : Ordering) → MatchOrdering o (a < b) (a ≡ b) (b < a) → is_eq o ≡ eqb a b
nat_eq_by a b Less h = sym (ne_eqb a b (λ e. omega (arith, h, e)))
nat_eq_by a b Equal h = sym (eq-eqb a b h)
nat_eq_by a b Greater h = sym (ne_eqb a b (λ e. omega (arith, h, e)))

-- the order of pairs ties the same pairs
pub same_at : (p q : Pair) → is_at (pair_cmp p) q ≡ same_pair p q
same_at p q = then_eq (nat_cmp p.0 q.0) (nat_cmp p.1 q.1) ∙ ap₂ (λ a b. a && b) (nat_eq_by p.0 q.0 _ (ranked p.0 q.0 _ refl)) (nat_eq_by p.1 q.1 _ (ranked p.1 q.1 _ refl))

same_turned : (p q : Pair) → same_pair p q ≡ same_pair q p
same_turned p q = grind (arith, nat_tests)

both : (a b : Bool) → a && b ≡ true → (a ≡ true) × (b ≡ true)
both true true h = (refl, refl)
both true false h = absurd cc
both false b h = absurd cc

same_one : (p q : Pair) → same_pair p q ≡ true → p ≡ q
same_one p q h =
    let x = both (eqb p.0 q.0) (eqb p.1 q.1) h in
    let one : p.0 ≡ q.0 = grind (arith, nat_tests, x.0) in
    let two : p.1 ≡ q.1 = grind (arith, nat_tests, x.1) in
    ap₂ (λ (a b : ℕ). (a, b)) one two

one_owner : (a b : Bool) (n : ℕ) (old rest : Option ℕ) → a ≡ b → (a ≡ true → old ≡ None) → or_else old (cond b (Some n) rest) ≡ or_else (cond a (Some n) old) rest
one_owner true true n old rest e none = rw (none refl) refl
one_owner false false n old rest e none = refl
one_owner true false n old rest e none = absurd cc
one_owner false true n old rest e none = absurd cc

pick : (a : Bool) (n : ℕ) (old : Option ℕ) → is_none (cond a (Some n) old) ≡ is_none old && not a
pick true n None = refl
pick true n (Some m) = refl
pick false n None = refl
pick false n (Some m) = refl

not_or : (a b : Bool) → not (a || b) ≡ not a && not b
not_or true b = refl
not_or false b = refl

swap_and : (a b c d : Bool) → (a && b) && (c && d) ≡ (a && c) && (b && d)
swap_and true true true d = refl
swap_and true true false d = refl
swap_and true false true d = refl
swap_and true false false d = refl
swap_and false b c d = refl

and_first : (a b c : Bool) → a && (b && c) ≡ (a && b) && c
and_first true b c = refl
and_first false b c = refl

module _ (old new : Owned) (k : Pair) (n : ℕ) (gains : Gains old k n new) where
  new_all : (es : Owned) → list_all (λ (e : Pair × ℕ). is_none (owner_in new e.0)) es ≡ list_all (λ (e : Pair × ℕ). is_none (owner_in old e.0)) es && not (list_any (same_pair k) (map (λ (e : Pair × ℕ). e.0) es))
  new_all [] = refl
  new_all (e ∷ es) =
      let one : is_none (owner_in new e.0) ≡ is_none (owner_in old e.0) && not (same_pair k e.0) = rw (gains e.0) (pick (same_pair k e.0) n (owner_in old e.0)) in
      let some = list_any (same_pair k) (map (λ (e : Pair × ℕ). e.0) es) in
      let all = list_all (λ (e : Pair × ℕ). is_none (owner_in old e.0)) es in
      ap₂ (λ a b. a && b) one (new_all es) ∙ swap_and (is_none (owner_in old e.0)) (not (same_pair k e.0)) all (not some) ∙ ap (λ b. (is_none (owner_in old e.0) && all) && b) (sym (not_or (same_pair k e.0) some))

  -- a pair that has no entry was entered
  pub step : owner_in old k ≡ None → (rest : Owned) → GoesOn old ((k, n) ∷ rest) new rest
  unfolding owner_among are_new
  step none rest = record {
    owner = λ more q. rw (gains q) (one_owner (same_pair k q) (same_pair q k) n (owner_in old q) (owner_among (rest ++ more) q) (same_turned k q) (λ e. rw (← same_one k q e) none));
    are_new = λ more.
        let es = rest ++ more in
        let ps = map (λ (e : Pair × ℕ). e.0) es in
        let all = list_all (λ (e : Pair × ℕ). is_none (owner_in old e.0)) es in
        rw (none, new_all es) (and_first all (not (list_any (same_pair k) ps)) (all_differ same_pair ps));
  }

-- a pair that has an entry stands twice
pub stands : (old : Owned) (k : Pair) (n m : ℕ) (rest more : Owned) → owner_in old k ≡ Some m → are_new old (((k, n) ∷ rest) ++ more) ≡ false
unfolding are_new
stands old k n m rest more h = rw h refl

-- one after the other
pub goes_on : (a xs b ys c zs : Owned) → GoesOn a xs b ys → GoesOn b ys c zs → GoesOn a xs c zs
goes_on a xs b ys c zs h g = record {
  owner = λ more q. h.owner more q ∙ g.owner more q;
  are_new = λ more. h.are_new more ∙ g.are_new more;
}

-- what the map says of an entry more
pub gains_of : (old : Owned) (k : Pair) (n : ℕ) (new : Owned) → ((q : Pair) → owner_in new q ≡ cond (is_at (pair_cmp k) q) (Some n) (owner_in old q)) → Gains old k n new
gains_of old k n new h q = h q ∙ ap (λ b. cond b (Some n) (owner_in old q)) (same_at k q)

tells_others : (slot : Option (Pair × ℕ)) (q : Pair) (before after : Option ℕ) → after ≡ before → Tells slot q before → Tells slot q after
tells_others None q before after same h = same ∙ h
tells_others (Some e) q before after same h = λ here. same ∙ h here

-- a slot that is set to a pair that was entered
pub slots_set : (slots : List (Option (Pair × ℕ))) (old new : Owned) (k : Pair) (n at : ℕ) → AreSlots slots old → Gains old k n new → at ≡ slot_of k → at < 4096 → AreSlots (set slots at (Some (k, n))) new
slots_set slots old new k n at h gains here below = record {
  count = length-set slots at (Some (k, n)) ∙ h.count;
  each = λ q. elim (cases_Bool (same_pair k q)) [
    | inl same ↦
        let place : slot_of q ≡ at = ap slot_of (sym (same_one k q same)) ∙ sym here in
        rw (get_or-set_at slots at (slot_of q) (Some (k, n)) None place (rw h.count below), gains q, same) (λ e. refl)
    | inr other ↦ elim (cases_eq (slot_of q) at) [
      | inl place ↦ rw (get_or-set_at slots at (slot_of q) (Some (k, n)) None place (rw h.count below)) (λ e. absurd (false≢true (sym other ∙ e)))
      | inr apart ↦ rw (get_or-set_other slots at (slot_of q) (Some (k, n)) None apart) (tells_others (get_or slots (slot_of q) None) q (owner_in old q) (owner_in new q) (rw (gains q, other) refl) (h.each q))
    ]
  ];
}

pub from_none : (o : Option ℕ) → is_none o ≡ true → o ≡ None
from_none None h = refl
from_none (Some n) h = absurd cc

pub from_some : (o : Option ℕ) → is_none o ≡ false → (n : ℕ) × (o ≡ Some n)
from_some None h = absurd cc
from_some (Some n) h = (n, refl)

positions_more : (pair : Pair) (ks : List Pair) (n : ℕ) (rest : Owned) → owner_among (map (λ (k : Pair). (k, n)) ks ++ rest) pair ≡ cond (list_any (same_pair pair) ks) (Some n) (owner_among rest pair)
unfolding owner_among
positions_more pair [] n rest = refl
positions_more pair (k ∷ ks) n rest = ap (cond (same_pair pair k) (Some n)) (positions_more pair ks n rest) ∙ cond_or (same_pair pair k) (list_any (same_pair pair) ks) (Some n) (owner_among rest pair)
  where
    cond_or : (a b : Bool) (x y : Option ℕ) → cond a x (cond b x y) ≡ cond (a || b) x y
    cond_or true b x y = refl
    cond_or false b x y = refl

-- the owner among the pairs of accounts is the first account that owns the pair
pub first_owner : (n : ℕ) (as_ : List PlannedAccount) (pair : Pair) → owner_among (owned n as_) pair ≡ position_from (λ a. owns a pair) n as_
unfolding owner_among
first_owner n [] pair = refl
first_owner n (a ∷ rest) pair = positions_more pair a.pairs n (owned (n + 1) rest) ∙ ap (cond (owns a pair) (Some n)) (first_owner (n + 1) rest pair)

map_pairs : (ks : List Pair) (n : ℕ) (rest : Owned) → map (λ (e : Pair × ℕ). e.0) (map (λ (k : Pair). (k, n)) ks ++ rest) ≡ ks ++ map (λ (e : Pair × ℕ). e.0) rest
map_pairs [] n rest = refl
map_pairs (k ∷ ks) n rest = ap (λ (xs : List Pair). k ∷ xs) (map_pairs ks n rest)

-- and these pairs are all pairs
pub pairs_owned : (n : ℕ) (as_ : List PlannedAccount) → map (λ (e : Pair × ℕ). e.0) (owned n as_) ≡ all_pairs as_
pairs_owned n [] = refl
pairs_owned n (a ∷ rest) = map_pairs a.pairs n (owned (n + 1) rest) ∙ ap (λ (xs : List Pair). a.pairs ++ xs) (pairs_owned (n + 1) rest)

all_hold : (es : Owned) → list_all (λ (e : Pair × ℕ). is_none (owner_in [] e.0)) es ≡ true
all_hold [] = refl
all_hold (e ∷ es) = all_hold es

-- at first, pairs are new where they differ
pub at_first : (as_ : List PlannedAccount) → are_new [] (owned 0 as_) ≡ all_differ same_pair (all_pairs as_)
unfolding are_new
at_first as_ = rw (all_hold (owned 0 as_), pairs_owned 0 as_) refl

-- a list from a place on
pub cut : {A : Type 0} (xs : List A) (i : ℕ) (d : A) → i < length xs → drop i xs ≡ get_or xs i d ∷ drop (i + 1) xs
cut xs i d h = rw add-one (drop-cons xs i d h)

-- and whatever else is to come
pub with_rest : (old mine new rest : Owned) → GoesOn old mine new [] → GoesOn old (mine ++ rest) new rest
with_rest old mine new rest h = record {
  owner = λ more q. ap (λ (l : Owned). owner_then old l q) (append_assoc mine rest more) ∙ h.owner (rest ++ more) q;
  are_new = λ more. ap (are_new old) (append_assoc mine rest more) ∙ h.are_new (rest ++ more);
}

append_none : (xs : Owned) → xs ++ [] ≡ xs
append_none [] = refl
append_none (x ∷ xs) = ap (λ (l : Owned). x ∷ l) (append_none xs)

or_none : (o : Option ℕ) → or_else o None ≡ o
or_none None = refl
or_none (Some n) = refl

-- once no account is left, the entries have the owner of each pair
pub all_entered : (accounts : List PlannedAccount) (entries rest : Owned) → rest ≡ [] → GoesOn [] (owned 0 accounts) entries rest
    → (all_differ same_pair (all_pairs accounts) ≡ true) × AreOwners accounts entries
unfolding owner_among are_new
all_entered accounts entries rest none h = (
  sym (at_first accounts) ∙ ap (are_new []) (sym (append_none (owned 0 accounts))) ∙ h.are_new [] ∙ ap (λ (l : Owned). are_new entries (l ++ [])) none,
  λ pair. sym (sym (first_owner 0 accounts pair) ∙ ap (λ (l : Owned). owner_among l pair) (sym (append_none (owned 0 accounts))) ∙ h.owner [] pair ∙ ap (λ (l : Owned). or_else (owner_in entries pair) (owner_among (l ++ []) pair)) none ∙ or_none (owner_in entries pair)),
)

-- where a pair has an entry already, some pair stands twice
pub not_all : (accounts : List PlannedAccount) (entries mine rest : Owned) → GoesOn [] (owned 0 accounts) entries (mine ++ rest) → IsTwice entries mine
    → all_differ same_pair (all_pairs accounts) ≡ false
not_all accounts entries mine rest h twice =
    sym (at_first accounts) ∙ ap (are_new []) (sym (append_none (owned 0 accounts))) ∙ h.are_new [] ∙ ap (are_new entries) (append_assoc mine rest []) ∙ twice (rest ++ [])

found_below : (b : Bool) (n len : ℕ) (o : Option ℕ) → IfSome o (λ m. m < (n + 1) + len) → IfSome (cond b (Some n) o) (λ m. m < n + suc len)
found_below true n len o h = rw (← add-one len) (omega arith)
found_below false n len None h = tt
found_below false n len (Some m) h = rw (← add-one len) (omega (arith, h))

below_from : (pair : Pair) (n : ℕ) (accounts : List PlannedAccount) → IfSome (position_from (λ a. owns a pair) n accounts) (λ m. m < n + length accounts)
below_from pair n [] = tt
below_from pair n (a ∷ rest) = found_below (owns a pair) n (length rest) (position_from (λ a. owns a pair) (n + 1) rest) (below_from pair (n + 1) rest)

from_zero : (len : ℕ) (o : Option ℕ) → IfSome o (λ m. m < 0 + len) → IfSome o (λ m. m < len)
from_zero len None h = tt
from_zero len (Some m) h = omega (arith, h)

-- an account that is found is one of the accounts
pub owner_below : (pair : Pair) (accounts : List PlannedAccount) → IfSome (position_from (λ a. owns a pair) 0 accounts) (λ m. m < length accounts)
owner_below pair accounts = from_zero (length accounts) (position_from (λ a. owns a pair) 0 accounts) (below_from pair 0 accounts)

either : (a b : Bool) → (a || b) ≡ true → (a ≡ true) ⊎ (b ≡ true)
either true b h = inl refl
either false b h = inr h

or_true : (a b : Bool) → b ≡ true → (a || b) ≡ true
or_true true b h = refl
or_true false b h = h

and_false : (a b : Bool) → b ≡ false → (a && b) ≡ false
and_false true b h = h
and_false false b h = refl

not_first : (a b : Bool) → a ≡ true → (not a && b) ≡ false
not_first true b h = refl
not_first false b h = absurd (false≢true h)

not_true : (b : Bool) → (b ≡ true → false ≡ true) → b ≡ false
not_true true h = absurd (false≢true (h refl))
not_true false h = refl

among_first : (pair : Pair) (ks others : List Pair) → list_any (same_pair pair) ks ≡ true → list_any (same_pair pair) (ks ++ others) ≡ true
among_first pair [] others h = absurd (false≢true h)
among_first pair (k ∷ ks) others h =
    elim (either (same_pair pair k) (list_any (same_pair pair) ks) h) [
      | inl here ↦ ap (λ b. b || list_any (same_pair pair) (ks ++ others)) here
      | inr later ↦ or_true (same_pair pair k) (list_any (same_pair pair) (ks ++ others)) (among_first pair ks others later)
    ]

among_later : (pair : Pair) (ks others : List Pair) → list_any (same_pair pair) others ≡ true → list_any (same_pair pair) (ks ++ others) ≡ true
among_later pair [] others h = h
among_later pair (k ∷ ks) others h = or_true (same_pair pair k) (list_any (same_pair pair) (ks ++ others)) (among_later pair ks others h)

-- a pair that is among the first and among the others stands twice
among_both : (pair : Pair) (ks others : List Pair) → list_any (same_pair pair) ks ≡ true → list_any (same_pair pair) others ≡ true → all_differ same_pair (ks ++ others) ≡ false
among_both pair [] others h g = absurd (false≢true h)
among_both pair (k ∷ ks) others h g =
    elim (either (same_pair pair k) (list_any (same_pair pair) ks) h) [
      | inl here ↦ not_first (list_any (same_pair k) (ks ++ others)) (all_differ same_pair (ks ++ others)) (ap (λ (p : Pair). list_any (same_pair p) (ks ++ others)) (sym (same_one pair k here)) ∙ among_later pair ks others g)
      | inr later ↦ and_false (not (list_any (same_pair k) (ks ++ others))) (all_differ same_pair (ks ++ others)) (among_both pair ks others later g)
    ]

others_differ : (ks others : List Pair) → all_differ same_pair (ks ++ others) ≡ true → all_differ same_pair others ≡ true
others_differ [] others h = h
others_differ (k ∷ ks) others h = others_differ ks others (both (not (list_any (same_pair k) (ks ++ others))) (all_differ same_pair (ks ++ others)) h).1

module _ (pair : Pair) where
  owned_there : (as_ : List PlannedAccount) (n : ℕ) (a : PlannedAccount) → slice_get as_ n ≡ Some a → owns a pair ≡ true → list_any (same_pair pair) (all_pairs as_) ≡ true
  owned_there [] n a at h = absurd cc
  owned_there (b ∷ rest) zero a at h =
      let same : b ≡ a = cc in
      among_first pair b.pairs (all_pairs rest) (ap (λ (x : PlannedAccount). owns x pair) same ∙ h)
  owned_there (b ∷ rest) (suc n) a at h = among_later pair b.pairs (all_pairs rest) (owned_there rest n a at h)

  -- where all pairs differ, an account that owns a pair is the first one that does
  pub sole_owner : (first : ℕ) (as_ : List PlannedAccount) (n : ℕ) (a : PlannedAccount) → all_differ same_pair (all_pairs as_) ≡ true → slice_get as_ n ≡ Some a → owns a pair ≡ true
      → position_from (λ a. owns a pair) first as_ ≡ Some (first + n)
  sole_owner first [] n a differ at h = absurd cc
  sole_owner first (b ∷ rest) zero a differ at h =
      let same : b ≡ a = cc in
      let place : first ≡ first + zero = omega arith in
      ap (λ c. cond c (Some first) (position_from (λ a. owns a pair) (first + 1) rest)) (ap (λ (x : PlannedAccount). owns x pair) same ∙ h) ∙ ap Some place
  sole_owner first (b ∷ rest) (suc n) a differ at h =
      let there : list_any (same_pair pair) (all_pairs rest) ≡ true = owned_there rest n a at h in
      let other : owns b pair ≡ false = not_true (owns b pair) (λ here. sym (among_both pair b.pairs (all_pairs rest) here there) ∙ differ) in
      let place : (first + 1) + n ≡ first + suc n = omega arith in
      ap (λ c. cond c (Some first) (position_from (λ a. owns a pair) (first + 1) rest)) other ∙ sole_owner (first + 1) rest n a (others_differ b.pairs (all_pairs rest) differ) at h ∙ ap Some place

-- the pairs of accounts that are distinct all differ
pub pairs_apart : (accounts : List PlannedAccount) → are_distinct accounts ≡ true → all_differ same_pair (all_pairs accounts) ≡ true
pairs_apart accounts h = (both (all_differ same_pair (all_pairs accounts)) (all_differ (λ a b. bytes_eq a.name b.name) accounts) h).0
