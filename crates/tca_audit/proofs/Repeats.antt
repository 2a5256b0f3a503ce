-- The members of a sorted list that stand there more than once.
use Rattle.std.proofs.Common.{◌≡◌, ◌≢◌, ℕ, zero, suc, ◌+◌, ◌-◌, ◌<◌, ◌≤◌, Bool, true, false, not, ◌&&◌, ◌||◌, cond, List, [], ◌∷◌, length, drop, take, get_or, Some, Result, Ok, Err, ◌++◌, append_assoc, refl, sym, ap, subst, ◌∙◌, arith}
use Rattle.std.specs.Prelude.{⊤, nat_lt, nat_eq, map, filter, is_ok}
use Rattle.std.specs.List.{AllByRecursion, count_by, list_any}
use Rattle.std.specs.List.Sorted.{IsBinarySearchResult, IsPermutation, IsSearchInRange, IsSorted, IsStrictlySortedBy}
use Rattle.std.specs.Ordering.{eq_by_cmp, is_eq, is_le, is_lt, is_some_and, ordering_reverse}
use Rattle.std.specs.declared.cmp.Ordering.TheVariants.{Less, Equal, Greater}
use Rattle.std.proofs.lemmas.Bool.Decides.{nat_tests}
use Rattle.std.proofs.lemmas.Bool.{lt-ltb, eqb-true, eqb-false, false≢true}
use Rattle.std.proofs.lemmas.List.{append-nil, drop-drop, drop_all, drop_more, get_or-map, length-map}
use Rattle.std.proofs.lemmas.List.Recursion.{is_count_by}
use Rattle.std.proofs.lemmas.List.Sorted.{sum_by-IsPermutation}
use Rattle.tca_join.specs.Sets.{has}
use Rattle.tca_join.proofs.Sets.{all_more}
use Rattle.tca_report.specs.report.Reports.{PacketReport}
use Rattle.tca_report.specs.report.Identities.{identity_cmp, identity_of, identity_total}
use Rattle.tca_report.specs.declared.report.Identity.{Identity}
use Rattle.tca_report.proofs.lemmas.report.Identities.{identity_exact}
use Rattle.tca_log.specs.Disputes.{contents, disputed, has_identity}
use Rattle.tca_log.proofs.Contents.{disputed_is, tests_alike}
use Rattle.tca_log.proofs.Filters.{alike}
use Rattle.tca_log.proofs.AscendingIdentities.{none_disputed}
use Rattle.tca_log.proofs.OrderedRows.Rising.{rises_first, rises_more}
use Rattle.tca_join.proofs.Search.{found_at, gap_at, searchable}
use Rattle.tca_audit.specs.inside.Repeats.{begins_with, repeats}

abbrev same : Identity → Identity → Bool
same i x = eq_by_cmp identity_cmp i x

-- how often an identity stands in a list
abbrev times : List Identity → Identity → ℕ
times [] i = 0
times (x ∷ xs) i = cond (same i x) 1 0 + times xs i

times_count : (i : Identity) (xs : List Identity) → times xs i ≡ count_by (same i) xs
times_count i xs = is_count_by (λ ys. times ys i) (same i) refl (λ y ys. one (same i y) (times ys i)) xs
  where
    one : (b : Bool) (t : ℕ) → cond b 1 0 + t ≡ cond b (1 + t) t
    one true t = refl
    one false t = omega arith

-- a list in which no member is below one before it
abbrev Above : Identity → List Identity → Type 0
Above x xs = AllByRecursion (λ y. identity_cmp x y ≢ Greater) xs

abbrev Rises : List Identity → Type 0
Rises [] = ⊤
Rises (x ∷ xs) = Above x xs × Rises xs

not_above : (x y : Identity) → is_lt (identity_cmp y x) ≡ false → identity_cmp x y ≢ Greater
not_above x y e g =
    let turned : identity_cmp y x ≡ Less = identity_total.antisymm y x ∙ ap ordering_reverse g in
    false≢true (sym e ∙ ap is_lt turned)

-- no lower than what is no lower
above_again : (x y z : Identity) → identity_cmp x y ≢ Greater → identity_cmp y z ≢ Greater → identity_cmp x z ≢ Greater
above_again x y z h k =
    elim (identity_cmp x y) as (λ r. identity_cmp x y ≡ r → identity_cmp x z ≢ Greater) [
      | Less ↦ λ e. elim (identity_cmp y z) as (λ s. identity_cmp y z ≡ s → identity_cmp x z ≢ Greater) [
        | Less ↦ λ f g. let l : Greater ≡ Less = sym g ∙ identity_total.trans x y z e f in absurd cc
        | Equal ↦ λ f. subst (λ w. identity_cmp x w ≢ Greater) (identity_exact y z f) h
        | Greater ↦ λ f. absurd (k f)
      ] refl
      | Equal ↦ λ e. subst (λ w. identity_cmp w z ≢ Greater) (sym (identity_exact x y e)) k
      | Greater ↦ λ e. absurd (h e)
    ] refl

abbrev Adjacent : List Identity → Type 0
Adjacent xs = (k : ℕ) (d : Identity) → k + 1 < length xs → is_lt (identity_cmp (get_or xs (k + 1) d) (get_or xs k d)) ≡ false

tail_adjacent : (x : Identity) (xs : List Identity) → Adjacent (x ∷ xs) → Adjacent xs
tail_adjacent x xs h k d l =
    let e : suc k + 1 ≡ suc (k + 1) = omega arith in
    subst (λ n. is_lt (identity_cmp (get_or (x ∷ xs) n d) (get_or xs k d)) ≡ false) e (h (suc k) d (omega arith))

rises_from : (xs : List Identity) → Adjacent xs → Rises xs
rises_from [] h = tt
rises_from (x ∷ []) h = (tt, tt)
rises_from (x ∷ y ∷ ys) h =
    let rest = rises_from (y ∷ ys) (tail_adjacent x (y ∷ ys) h) in
    let first = not_above x y (h zero x (omega arith)) in
    ((first, all_more (λ z. identity_cmp y z ≢ Greater) (λ z. identity_cmp x z ≢ Greater) (λ z l. above_again x y z first l) ys rest.0), rest)

pub rises_sorted : (xs : List Identity) → IsSorted identity_cmp xs → Rises xs
rises_sorted xs h = rises_from xs (λ k d l. h k d (omega arith) l)

-- one that is below all of a list isn't there
none_below : (x : Identity) (xs : List Identity) → AllByRecursion (λ y. identity_cmp x y ≡ Less) xs → times xs x ≡ 0
none_below x [] h = refl
none_below x (y ∷ ys) h = rw h.0 (omega (arith, none_below x ys h.1))

below_again : (x y z : Identity) → identity_cmp x y ≡ Less → identity_cmp y z ≢ Greater → identity_cmp x z ≡ Less
below_again x y z e k = elim (identity_cmp y z) as (λ s. identity_cmp y z ≡ s → identity_cmp x z ≡ Less) [
  | Less ↦ λ f. identity_total.trans x y z e f
  | Equal ↦ λ f. subst (λ w. identity_cmp x w ≡ Less) (identity_exact y z f) e
  | Greater ↦ λ f. absurd (k f)
] refl

-- of a rising list, the first that is no lower than x is x exactly where x is there
begins_exactly : (x : Identity) (xs : List Identity) → Above x xs → Rises xs → begins_with x xs ≡ nat_lt 0 (times xs x)
unfolding begins_with
begins_exactly x [] h r = refl
begins_exactly x (y ∷ ys) h r =
    elim (identity_cmp x y) as (λ o. identity_cmp x y ≡ o → is_eq o ≡ nat_lt 0 (cond (is_eq o) 1 0 + times ys x)) [
      | Less ↦ λ e. sym (ap (λ t. nat_lt 0 (0 + t)) (none_below x ys (all_more (λ z. identity_cmp y z ≢ Greater) (λ z. identity_cmp x z ≡ Less) (λ z l. below_again x y z e l) ys r.0)))
      | Equal ↦ λ e. sym (lt-ltb 0 (1 + times ys x) (omega arith))
      | Greater ↦ λ e. absurd (h.0 e)
    ] refl

one_alone : (t : ℕ) → not (nat_lt 0 t) ≡ nat_eq (1 + t) 1
one_alone t = grind (arith, nat_tests)

-- whether a member is taken: it stands once more behind
abbrev taken : Identity → List Identity → Bool
taken x xs = begins_with x xs && not (begins_with x (drop 1 xs))

taken_once : (x : Identity) (xs : List Identity) → Above x xs → Rises xs → taken x xs ≡ nat_eq (times xs x) 1
unfolding begins_with
taken_once x [] h r = refl
taken_once x (y ∷ ys) h r =
    elim (identity_cmp x y) as (λ o. identity_cmp x y ≡ o → (is_eq o && not (begins_with x ys)) ≡ nat_eq (cond (is_eq o) 1 0 + times ys x) 1) [
      | Less ↦ λ e. sym (ap (λ t. nat_eq (0 + t) 1) (none_below x ys (all_more (λ z. identity_cmp y z ≢ Greater) (λ z. identity_cmp x z ≡ Less) (λ z l. below_again x y z e l) ys r.0)))
      | Equal ↦ λ e. ap not (begins_exactly x ys h.1 r.1) ∙ one_alone (times ys x)
      | Greater ↦ λ e. absurd (h.0 e)
    ] refl

count_step : (b s : Bool) (t : ℕ) → (s ≡ true → b ≡ nat_eq t 1) → cond b (s || nat_lt 1 t) (nat_lt 1 t) ≡ nat_lt 1 (cond s 1 0 + t)
count_step true true t h = let one : t ≡ 1 = eqb-true t 1 (sym (h refl)) in sym (lt-ltb 1 (1 + t) (omega arith))
count_step false true t h = let apart = eqb-false t 1 (sym (h refl)) in tests_alike 1 t 1 (1 + t) (λ l. omega arith) (λ l. omega (arith, apart))
count_step true false t h = ap (nat_lt 1) (omega arith)
count_step false false t h = ap (nat_lt 1) (omega arith)

has_taken : (b : Bool) (x : Identity) (xs : List Identity) (i : Identity) → has identity_cmp (cond b (x ∷ xs) xs) i ≡ cond b (same i x || has identity_cmp xs i) (has identity_cmp xs i)
unfolding has
has_taken true x xs i = refl
has_taken false x xs i = refl

same_means : (i x : Identity) → same i x ≡ true → i ≡ x
same_means i x e = alike identity_cmp identity_total identity_exact i x e

-- one is among the repeats exactly where it stands more than once
pub has_repeats : (xs : List Identity) → Rises xs → (i : Identity) → has identity_cmp (repeats xs) i ≡ nat_lt 1 (times xs i)
unfolding repeats has
has_repeats [] r i = refl
has_repeats (x ∷ xs) r i =
    has_taken (taken x xs) x (repeats xs) i
    ∙ (λ j. cond (taken x xs) (same i x || has_repeats xs r.1 i j) (has_repeats xs r.1 i j))
    ∙ count_step (taken x xs) (same i x) (times xs i) (λ e. taken_once x xs r.0 r.1 ∙ ap (λ k. nat_eq (times xs k) 1) (sym (same_means i x e)))

all_repeats : (P : Identity → Type 0) (xs : List Identity) → AllByRecursion P xs → AllByRecursion P (repeats xs)
unfolding repeats
all_repeats P [] h = tt
all_repeats P (x ∷ xs) h = elim (taken x xs) as (λ b. AllByRecursion P (cond b (x ∷ repeats xs) (repeats xs))) [
  | true ↦ (h.0, all_repeats P xs h.1)
  | false ↦ all_repeats P xs h.1
]

-- what is no lower than x and doesn't have it is above it
strictly : (x : Identity) (xs : List Identity) → Above x xs → has identity_cmp xs x ≡ false → AllByRecursion (λ y. identity_cmp x y ≡ Less) xs
unfolding has
strictly x [] h none = tt
strictly x (y ∷ ys) h none =
    elim (identity_cmp x y) as (λ o. identity_cmp x y ≡ o → (is_eq o || list_any (same x) ys) ≡ false → AllByRecursion (λ z. identity_cmp x z ≡ Less) (y ∷ ys)) [
      | Less ↦ λ e n. (e, strictly x ys h.1 n)
      | Equal ↦ λ e n. absurd cc
      | Greater ↦ λ e n. absurd (h.0 e)
    ] refl none

pub rises_repeats : (xs : List Identity) → Rises xs → IsStrictlySortedBy identity_cmp (repeats xs)
unfolding repeats IsStrictlySortedBy
rises_repeats [] r = tt
rises_repeats (x ∷ xs) r =
    let rest = rises_repeats xs r.1 in
    elim (taken x xs) as (λ b. taken x xs ≡ b → IsStrictlySortedBy identity_cmp (cond b (x ∷ repeats xs) (repeats xs))) [
      | true ↦ λ e.
          let one : times xs x ≡ 1 = eqb-true (times xs x) 1 (sym (taken_once x xs r.0 r.1) ∙ e) in
          let none : has identity_cmp (repeats xs) x ≡ false = has_repeats xs r.1 x ∙ ap (nat_lt 1) one in
          (strictly x (repeats xs) (all_repeats (λ y. identity_cmp x y ≢ Greater) xs r.0) none, rest)
      | false ↦ λ e. rest
    ] refl

pub few_repeats : (xs : List Identity) → length (repeats xs) ≤ length xs
unfolding repeats
few_repeats [] = omega arith
few_repeats (x ∷ xs) = elim (taken x xs) as (λ b. length (cond b (x ∷ repeats xs) (repeats xs)) ≤ length (x ∷ xs)) [
  | true ↦ omega (arith, few_repeats xs)
  | false ↦ omega (arith, few_repeats xs)
]

-- an identity stands among those of reports as often as it has reports
times_of : (rs : List PacketReport) (i : Identity) → times (map identity_of rs) i ≡ length (contents rs i)
unfolding contents
times_of [] i = refl
times_of (r ∷ rs) i =
    elim (has_identity i r) as (λ b. cond b 1 0 + times (map identity_of rs) i ≡ length (cond b (r ∷ filter (has_identity i) rs) (filter (has_identity i) rs))) [
      | true ↦ omega (arith, times_of rs i)
      | false ↦ omega (arith, times_of rs i)
    ]

-- the repeats among the identities of reports, once these were sorted, are the disputed ones
pub repeats_are : (rs : List PacketReport) (ids : List Identity) → IsPermutation (map identity_of rs) ids → IsSorted identity_cmp ids → repeats ids ≡ disputed rs
repeats_are rs ids p sorted =
    let r = rises_sorted ids sorted in
    disputed_is rs (repeats ids) (rises_repeats ids r) (λ i.
    has_repeats ids r i
    ∙ ap (nat_lt 1) (times_count i ids ∙ sum_by-IsPermutation (λ j. cond (same i j) 1 0) (map identity_of rs) ids p ∙ sym (times_count i (map identity_of rs)) ∙ times_of rs i))

-- in a list that strictly rises, none stands twice
once : (xs : List Identity) → IsStrictlySortedBy identity_cmp xs → (i : Identity) → times xs i ≤ 1
unfolding IsStrictlySortedBy
once [] h i = omega arith
once (x ∷ xs) h i = elim (same i x) as (λ b. same i x ≡ b → cond b 1 0 + times xs i ≤ 1) [
  | true ↦ λ e. let none : times xs i ≡ 0 = subst (λ j. times xs j ≡ 0) (sym (same_means i x e)) (none_below x xs h.0) in omega (arith, none)
  | false ↦ λ e. omega (arith, once xs h.1 i)
] refl

-- where the identities of reports strictly rise, none is disputed
pub none_where_they_rise : (rs : List PacketReport) → IsStrictlySortedBy identity_cmp (map identity_of rs) → [] ≡ disputed rs
none_where_they_rise rs h = sym (none_disputed rs (λ i. subst (λ n. n ≤ 1) (times_of rs i) (once (map identity_of rs) h i)))

-- what isn't at most another is above it
above_other : (x y : Identity) → is_some_and is_le (Some (identity_cmp y x)) ≡ false → is_lt (identity_cmp x y) ≡ true
above_other x y e =
    elim (identity_cmp y x) as (λ o. identity_cmp y x ≡ o → is_le o ≡ false → is_lt (identity_cmp x y) ≡ true) [
      | Less ↦ λ f g. absurd cc
      | Equal ↦ λ f g. absurd cc
      | Greater ↦ λ f g. ap is_lt (identity_total.antisymm x y ∙ ap ordering_reverse f)
    ] refl e

-- one report more, whose identity isn't at most that of the one before it
pub rises_by_one : (rs : List PacketReport) (i : ℕ) (x y : PacketReport) → 0 < i → i < length rs → x ≡ get_or rs (i - 1) x → y ≡ get_or rs i y
    → is_some_and is_le (Some (identity_cmp (identity_of y) (identity_of x))) ≡ false
    → IsStrictlySortedBy identity_cmp (take i (map identity_of rs)) → IsStrictlySortedBy identity_cmp (take (i + 1) (map identity_of rs))
rises_by_one rs i x y some h is next e =
    rises_more identity_cmp identity_total (map identity_of rs) i (identity_of x) (identity_of y) some (rw (length-map rs identity_of) h)
    (ap identity_of is ∙ sym (get_or-map identity_of rs (i - 1) x (identity_of x) (omega (arith, h))))
    (ap identity_of next ∙ sym (get_or-map identity_of rs i y (identity_of y) h))
    (above_other (identity_of x) (identity_of y) e)

pub rises_at_first : (rs : List PacketReport) → IsStrictlySortedBy identity_cmp (take 1 (map identity_of rs))
rises_at_first rs = rises_first identity_cmp identity_total (map identity_of rs)

-- a list from a place on, by what stands there
pub drop_read : {X : Type 0} (xs : List X) (i : ℕ) (x : X) → i < length xs → x ≡ get_or xs i x → drop i xs ≡ x ∷ drop (i + 1) xs
drop_read xs i x h is = drop_more xs i x h ∙ ap (λ y. y ∷ drop (i + 1) xs) (sym is)

module _ (xs : List Identity) (i : ℕ) (d : Identity) where
  pub begins_at : (x : Identity) → i < length xs → same x (get_or xs i d) ≡ begins_with x (drop i xs)
  unfolding begins_with
  begins_at x h = sym (ap (begins_with x) (drop_more xs i d h))

  pub begins_past : (x : Identity) → length xs ≤ i → false ≡ begins_with x (drop i xs)
  unfolding begins_with
  begins_past x h = sym (ap (begins_with x) (drop_all i xs h))

  -- one step through a list
  abbrev here : Identity
  here = get_or xs i d

  abbrev later : List Identity
  later = drop (i + 1) xs

  once_more : begins_with here (drop 1 later) ≡ begins_with here (drop (i + 2) xs)
  once_more = let e : i + 1 + 1 ≡ i + 2 = omega arith in ap (begins_with here) (drop-drop 1 (i + 1) xs ∙ ap (λ n. drop n xs) e)

  pub repeats_here : i < length xs → true ≡ begins_with here later → false ≡ begins_with here (drop (i + 2) xs) → (list : List Identity) → (list ++ here ∷ []) ++ repeats later ≡ list ++ repeats (drop i xs)
  unfolding repeats
  repeats_here h next last list =
      let is : repeats (here ∷ later) ≡ here ∷ repeats later = rw (sym next, once_more, sym last) refl in
      append_assoc list (here ∷ []) (repeats later) ∙ ap (λ ys. list ++ ys) (sym (ap repeats (drop_more xs i d h) ∙ is))

  pub once_here : i < length xs → false ≡ begins_with here later → repeats later ≡ repeats (drop i xs)
  unfolding repeats
  once_here h next =
      let is : repeats (here ∷ later) ≡ repeats later = rw (sym next) refl in
      sym (ap repeats (drop_more xs i d h) ∙ is)

  pub again_here : i < length xs → true ≡ begins_with here later → true ≡ begins_with here (drop (i + 2) xs) → repeats later ≡ repeats (drop i xs)
  unfolding repeats
  again_here h next more =
      let is : repeats (here ∷ later) ≡ repeats later = rw (sym next, once_more, sym more) refl in
      sym (ap repeats (drop_more xs i d h) ∙ is)

pub none_more : (xs : List Identity) (i : ℕ) (list : List Identity) → length xs ≤ i → list ++ repeats (drop i xs) ≡ list
unfolding repeats
none_more xs i list h = ap (λ ys. list ++ repeats ys) (drop_all i xs h) ∙ append-nil list

-- what a search in a set finds
pub is_found : (xs : List Identity) (i : Identity) (r : Result ℕ ℕ) → IsStrictlySortedBy identity_cmp xs → IsSearchInRange r (length xs) → IsBinarySearchResult (λ y. identity_cmp y i) xs r → is_ok r ≡ has identity_cmp xs i
is_found xs i (Ok at) s bound found = sym ((found_at identity_cmp identity_total identity_exact xs at i s bound found).0)
is_found xs i (Err at) s bound part = sym ((gap_at identity_cmp identity_total xs at i bound (part (searchable identity_cmp identity_total xs i s))).0)
