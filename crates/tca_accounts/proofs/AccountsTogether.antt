-- The accounts of values, judged together one after the other.
use Rattle.std.proofs.Common.{◌≡◌, ◌∙◌, ◌<◌, ◌+◌, ◌-◌, ◌^◌, ◌⊎◌, inl, inr, ℕ, suc, min, Bool, true, false, not, ◌&&◌, ◌||◌, List, [], ◌∷◌, ◌++◌, length, take, drop, get_or, Result, Ok, Err, nat_le, refl, ap, add-one, arith, length-append}
use Rattle.std.specs.Result.{IsOk}
use Rattle.std.specs.List.{list_any}
use Rattle.std.specs.Str.{bytes_eq}
use Rattle.std.proofs.lemmas.Bool.{cases_lt, false≢true}
use Rattle.std.proofs.lemmas.Bool.Decides.{nat_tests}
use Rattle.std.proofs.lemmas.List.{take_rest}
use Rattle.std.proofs.lemmas.List.Folds.{list_any-append}
use Rattle.toml.specs.View.{items_view, view}
use Rattle.toml.specs.declared.value.Value.{Value}
use Rattle.toml.proofs.Views.{items_view-drop}
use Rattle.tca_join.specs.Results.{◌>>=◌}
use Rattle.tca_accounts.specs.Plans.{PlannedAccount, all_pairs, owns, same_pair, all_differ}
use Rattle.tca_accounts.specs.Documents.{account_in, accounts_from, only_if, pair_in, pairs_of}
use Rattle.tca_accounts.specs.inside.Readings.{are_few, differ_before, names_differ, pairs_differ, together}
use Rattle.tca_accounts.specs.declared.fault.PlanFault.{PlanFault}
use Rattle.tca_accounts.specs.declared.fault.PlanFault.TheVariants as fault

-- one more in front, unless there was a fault
abbrev pub onto : {A : Type 0} → Result A PlanFault → Result (List A) PlanFault → Result (List A) PlanFault
onto r s = r >>= λ a. s >>= λ others. Ok (a ∷ others)

-- the accounts from a place on are the one that stands there and those behind it
pub accounts_at : (vs : List Value) (i n : ℕ) (v : Value) → i < length vs → v ≡ get_or vs i v → accounts_from n (items_view (drop i vs)) ≡ onto (account_in n (view v)) (accounts_from (n + 1) (items_view (drop (i + 1) vs)))
accounts_at vs i n v within is = rw (items_view-drop vs i v within, ← is, add-one n) refl

pub pairs_at : (vs : List Value) (i : ℕ) (v : Value) → i < length vs → v ≡ get_or vs i v → pairs_of (items_view (drop i vs)) ≡ onto (pair_in (view v)) (pairs_of (items_view (drop (i + 1) vs)))
pairs_at vs i v within is = rw (items_view-drop vs i v within, ← is) refl

-- what stands behind a place, as a slice has it
pub behind : {A : Type 0} (vs : List A) (i n : ℕ) → n ≡ i → take (length vs - (n + 1)) (drop (n + 1) vs) ≡ drop (i + 1) vs
behind vs i n e = take_rest vs (n + 1) ∙ ap (λ k. drop (k + 1) vs) e

-- so for something of them
abbrev pub given : {A B : Type 0} → (A → B) → Result A PlanFault → Result B PlanFault
given f r = r >>= λ x. Ok (f x)

-- a fault of the first
pub first_fault : {A B C D : Type 0} (f : A → B) (g : List A → C) (h : B → D) (e : PlanFault) (r : Result A PlanFault) (s : Result (List A) PlanFault) (p : Result B PlanFault)
    → Err e ≡ given h p → p ≡ given f r → Err e ≡ given g (onto r s)
first_fault f g h e (Ok a) s (Ok p) x y = cc
first_fault f g h e (Ok a) s (Err p) x y = cc
first_fault f g h e (Err d) s (Ok p) x y = cc
first_fault f g h e (Err d) s (Err p) x y = cc

-- a fault of the others
pub later_fault : {A B C D : Type 0} (f : A → B) (g : List A → C) (h : List A → D) (e : PlanFault) (b : B) (r : Result A PlanFault) (s : Result (List A) PlanFault)
    → Ok b ≡ given f r → Err e ≡ given h s → Err e ≡ given g (onto r s)
later_fault f g h e b (Ok a) (Ok others) x y = cc
later_fault f g h e b (Ok a) (Err d) x y = cc
later_fault f g h e b (Err d) s x y = cc

pub pairs_later_fault : {A B C : Type 0} (next : List A → Result C PlanFault) (h : List A → B) (e : PlanFault) (a : A) (r : Result A PlanFault) (s : Result (List A) PlanFault)
    → Ok a ≡ r → Err e ≡ given h s → Err e ≡ (onto r s >>= next)
pairs_later_fault next h e a (Ok b) (Ok others) x y = cc
pairs_later_fault next h e a (Ok b) (Err d) x y = cc
pairs_later_fault next h e a (Err d) s x y = cc

or_more : (found here more : Bool) → (found || (here || more)) ≡ ((found || here) || more)
or_more true here more = refl
or_more false here more = refl

and_more : (differ here more : Bool) → (differ && (here && more)) ≡ ((differ && here) && more)
and_more true here more = refl
and_more false here more = refl

-- a test of each, where the first was tested by what was read of it
pub any_step : {A B : Type 0} (f : A → B) (test : B → Bool) (p : A → Bool) (found here : Bool) (r : Result A PlanFault) (s : Result (List A) PlanFault) (b : Result B PlanFault)
    → ((a : A) → p a ≡ test (f a)) → Ok here ≡ given test b → b ≡ given f r → given (λ all. found || list_any p all) (onto r s) ≡ given (λ others. (found || here) || list_any p others) s
any_step f test p found here (Ok a) (Ok others) (Ok b) same x y =
    let first : here ≡ p a = cc (same a) in
    ap Ok (rw first (or_more found (p a) (list_any p others)))
any_step f test p found here (Ok a) (Err e) b same x y = refl
any_step f test p found here (Ok a) (Ok others) (Err e) same x y = cc
any_step f test p found here (Err e) s (Ok b) same x y = cc
any_step f test p found here (Err e) s (Err d) same x y = cc

-- an account's name, and those behind it
pub names_step : (differ again : Bool) (name : List ℕ) (r : Result PlannedAccount PlanFault) (s : Result (List PlannedAccount) PlanFault)
    → Ok name ≡ given (λ a. a.name) r → Ok again ≡ given (list_any (λ a. bytes_eq name a.name)) s → given (λ all. differ && names_differ all) (onto r s) ≡ given (λ others. (differ && not again) && names_differ others) s
names_step differ again name (Ok a) (Ok others) x y =
    let same : name ≡ a.name = cc in
    let found : again ≡ list_any (λ b. bytes_eq a.name b.name) others = rw (← same) (cc) in
    ap Ok (rw found (and_more differ (not (list_any (λ b. bytes_eq a.name b.name) others)) (names_differ others)))
names_step differ again name (Ok a) (Err e) x y = cc
names_step differ again name (Err e) s x y = cc

any_pairs : (pair : ℕ × ℕ) (accounts : List PlannedAccount) → list_any (same_pair pair) (all_pairs accounts) ≡ list_any (λ a. owns a pair) accounts
any_pairs pair [] = refl
any_pairs pair (a ∷ accounts) = list_any-append (same_pair pair) a.pairs (all_pairs accounts) ∙ ap (λ b. owns a pair || b) (any_pairs pair accounts)

-- an account's pairs, and those behind them
differ_parts : (pairs : List (ℕ × ℕ)) (others : List PlannedAccount) → all_differ same_pair (pairs ++ all_pairs others) ≡ (differ_before others pairs && pairs_differ others)
differ_parts [] others = refl
differ_parts (p ∷ pairs) others =
    rw (list_any-append (same_pair p) pairs (all_pairs others), any_pairs p others, differ_parts pairs others) (and_more _ (differ_before others pairs) (pairs_differ others))

pub pairs_step : (differ apart : Bool) (r : Result PlannedAccount PlanFault) (s : Result (List PlannedAccount) PlanFault) (p : Result (List (ℕ × ℕ)) PlanFault)
    → p ≡ given (λ a. a.pairs) r → Ok apart ≡ (p >>= λ pairs. given (λ others. differ_before others pairs) s) → given (λ all. differ && pairs_differ all) (onto r s) ≡ given (λ others. (differ && apart) && pairs_differ others) s
pairs_step differ apart (Ok a) (Ok others) (Ok pairs) x y =
    let same : pairs ≡ a.pairs = cc in
    let here : apart ≡ differ_before others a.pairs = rw (← same) (cc) in
    ap Ok (rw (differ_parts a.pairs others, here) (and_more differ (differ_before others a.pairs) (pairs_differ others)))
pairs_step differ apart (Ok a) (Err e) p x y = refl
pairs_step differ apart (Ok a) (Ok others) (Err e) x y = cc
pairs_step differ apart (Err e) s (Ok pairs) x y = cc
pairs_step differ apart (Err e) s (Err d) x y = cc

-- an account's pairs can be judged before others that are right
pub pairs_fault : {C : Type 0} (g : List PlannedAccount → C) (e : PlanFault) (r : Result PlannedAccount PlanFault) (s : Result (List PlannedAccount) PlanFault) (p : Result (List (ℕ × ℕ)) PlanFault)
    → p ≡ given (λ a. a.pairs) r → Err e ≡ (p >>= λ pairs. given (λ others. differ_before others pairs) s) → Err e ≡ given g (onto r s)
pairs_fault g e (Ok a) (Ok others) (Ok pairs) x y = cc
pairs_fault g e (Ok a) (Err d) (Ok pairs) x y = cc
pairs_fault g e (Ok a) s (Err d) x y = cc
pairs_fault g e (Err d) s (Ok pairs) x y = cc
pairs_fault g e (Err d) s (Err f) x y = cc

pub others_ok : {A : Type 0} (r : Result A PlanFault) (s : Result (List A) PlanFault) → IsOk (onto r s) → IsOk s
others_ok (Ok a) (Ok others) h = refl
others_ok (Ok a) (Err e) h = absurd (false≢true h)
others_ok (Err e) s h = absurd (false≢true h)

more_pairs : (n : ℕ) (r : Result (ℕ × ℕ) PlanFault) (s : Result (List (ℕ × ℕ)) PlanFault) (ps : List (ℕ × ℕ)) → ((qs : List (ℕ × ℕ)) → s ≡ Ok qs → length qs ≡ n) → onto r s ≡ Ok ps → length ps ≡ suc n
more_pairs n (Ok p) (Ok qs) ps ih h =
    let same : p ∷ qs ≡ ps = cc in
    let tail : length qs ≡ n = ih qs refl in
    rw (← same) (omega arith)
more_pairs n (Ok p) (Err e) ps ih h = cc
more_pairs n (Err e) s ps ih h = cc

-- as many pairs as values
pub pairs_length : (vs : List Value) (ps : List (ℕ × ℕ)) → pairs_of (items_view vs) ≡ Ok ps → length ps ≡ length vs
pairs_length [] [] h = refl
pairs_length [] (p ∷ ps) h = cc
pairs_length (v ∷ vs) ps h = more_pairs (length vs) (pair_in (view v)) (pairs_of (items_view vs)) ps (pairs_length vs) h

-- a sum that stops at the greatest number, above the limit
abbrev pub Stops : ℕ → ℕ → Type 0
Stops exact sum = (sum ≡ exact) ⊎ ((4096 < sum) × (4096 < exact))

pub stops : (exact sum : ℕ) → sum ≡ min exact (2 ^ 64 - 1) → Stops exact sum
stops exact sum e =
    elim (cases_lt (2 ^ 64 - 1) exact) [
      | inl above ↦ inr (omega (arith, e, above), omega (arith, above))
      | inr below ↦ inl (omega (arith, e, below))
    ]

capped : (count pairs others sum : ℕ) → Stops (count + pairs) sum → nat_le (count + (pairs + others)) 4096 ≡ nat_le (sum + others) 4096
capped count pairs others sum (inl e) = grind (arith, nat_tests)
capped count pairs others sum (inr h) = grind (arith, nat_tests)

pub few_step : (count sum : ℕ) (pairs : List Value) (r : Result PlannedAccount PlanFault) (s : Result (List PlannedAccount) PlanFault)
    → pairs_of (items_view pairs) ≡ given (λ a. a.pairs) r → IsOk (pairs_of (items_view pairs)) → Stops (count + length pairs) sum
    → given (λ all. nat_le (count + length (all_pairs all)) 4096) (onto r s) ≡ given (λ others. nat_le (sum + length (all_pairs others)) 4096) s
few_step count sum pairs (Ok a) (Ok others) x ok stops =
    let many : length a.pairs ≡ length pairs = pairs_length pairs a.pairs x in
    ap Ok (rw (length-append a.pairs (all_pairs others), many) (capped count (length pairs) (length (all_pairs others)) sum stops))
few_step count sum pairs (Ok a) (Err e) x ok stops = refl
few_step count sum pairs (Err e) s x ok stops = absurd (false≢true (rw x at ok))

-- all three judged
right : (few pairs names : Bool) → few ≡ true → pairs ≡ true → names ≡ true → Ok tt ≡ (only_if few fault.Limits >>= λ told. only_if (pairs && names) fault.KeyTwice)
right few pairs names f g h = rw (f, g, h) refl

wrong : (few pairs names : Bool) → few ≡ true → (pairs && names) ≡ false → Err fault.KeyTwice ≡ (only_if few fault.Limits >>= λ told. only_if (pairs && names) fault.KeyTwice)
wrong few pairs names f g = rw (f, g) refl

pub all_right : (s : Result (List PlannedAccount) PlanFault) → Ok true ≡ given are_few s → Ok true ≡ given pairs_differ s → Ok true ≡ given names_differ s → Ok tt ≡ (s >>= together)
all_right (Ok accounts) few p n = right (are_few accounts) (pairs_differ accounts) (names_differ accounts) (cc) (cc) (cc)
all_right (Err e) few p n = cc

pub twice : (pairs names : Bool) (s : Result (List PlannedAccount) PlanFault) → Ok true ≡ given are_few s → Ok pairs ≡ given pairs_differ s → Ok names ≡ given names_differ s → (pairs && names) ≡ false
    → Err fault.KeyTwice ≡ (s >>= together)
twice pairs names (Ok accounts) few p n some =
    let g : pairs ≡ pairs_differ accounts = cc in
    let h : names ≡ names_differ accounts = cc in
    wrong (are_few accounts) (pairs_differ accounts) (names_differ accounts) (cc) (rw (← g, ← h) some)
twice pairs names (Err e) few p n some = cc
