-- What stands twice in a list that is in order.
use Rattle.std.proofs.Common.{◌≡◌, ℕ, zero, suc, ◌+◌, ◌-◌, ◌<◌, ◌≤◌, Bool, true, false, ◌||◌, cond, List, [], ◌∷◌, ◌++◌, length, get_or, drop, filter, map, refl, sym, ap, subst, ◌∙◌, arith, add-one, append_assoc}
use Rattle.std.specs.Prelude.{⊤, None, nat_lt}
use Rattle.std.proofs.Math.Seq.{drop-cons}
use Rattle.std.specs.List.{AllByRecursion, list_any, dedup}
use Rattle.std.specs.List.Sorted.{IsPermutation, IsSorted, IsStrictlySortedBy}
use Rattle.std.specs.Ordering.{eq_by_cmp, is_eq, is_lt}
use Rattle.std.specs.Cmp.{IsTotalOrder, Equal-is, alike_right}
use Rattle.std.proofs.lemmas.Bool.{false≢true}
use Rattle.std.proofs.lemmas.List.{append-nil, get_or_default, length-map}
use Rattle.std.specs.declared.cmp.Ordering.{Ordering}
use Rattle.std.specs.declared.cmp.Ordering.TheVariants.{Less, Equal, Greater}
use Rattle.std.proofs.lemmas.List.Sums.{length-filter}
use Rattle.std.proofs.lemmas.List.Sorted.{sum_by-IsPermutation}
use borrow.Author.Tests.{lt-ltb}
use Rattle.tca_join.specs.Sets.{has, in_order}
use Rattle.tca_join.proofs.Sets.{has-in_order, rises_in_order, all_more}
use Rattle.tca_report.specs.report.Reports.{PacketReport, report_cmp}
use Rattle.tca_report.specs.report.Identities.{identity_of, identity_cmp, identity_total}
use Rattle.tca_report.specs.declared.report.Identity.{Identity}
use Rattle.tca_report.proofs.lemmas.report.Identities.{identity_exact}
use Rattle.tca_log.specs.inside.Additions.{times}
use Rattle.tca_log.specs.Disputes.{has_identity, contents, disputed}
use Rattle.tca_log.specs.inside.Logs.{count_at, IsKept}
use Rattle.tca_log.proofs.Contents.{disputed_is}
use Rattle.tca_log.proofs.Gathering.{set_is}
use Rattle.tca_log.proofs.OrderedRows.Parts.{turned}
use Rattle.tca_log.proofs.OrderedRows.Ranks.{below_of}
use Rattle.tca_log.proofs.OrderedRows.Small.{put_longest}

-- no member comes before one that stands before it
unfoldable pub InOrder : {K : Type 0} → (K → K → Ordering) → List K → Type 0
InOrder R [] = ⊤
InOrder R (x ∷ xs) = AllByRecursion (λ y. is_lt (R y x) ≡ false) xs × InOrder R xs

-- the members that tie with the one before them, after x
unfoldable pub repeated_after : {K : Type 0} → (K → K → Ordering) → K → List K → List K
repeated_after R x [] = []
repeated_after R x (y ∷ ys) = cond (eq_by_cmp R y x) (y ∷ repeated_after R y ys) (repeated_after R y ys)

unfoldable pub repeated_in : {K : Type 0} → (K → K → Ordering) → List K → List K
repeated_in R [] = []
repeated_in R (x ∷ xs) = repeated_after R x xs

more_than_one : (n : ℕ) → nat_lt 1 (suc (suc n)) ≡ true
more_than_one n = lt-ltb 1 (suc (suc n)) (omega arith)

module _ {K : Type 0} (R : K → K → Ordering) (o : IsTotalOrder R) where
  not_less : (x y z : K) → is_lt (R y x) ≡ false → is_lt (R z y) ≡ false → is_lt (R z x) ≡ false
  not_less x y z h k =
      elim (R z x) as (λ r. R z x ≡ r → is_lt r ≡ false) [
        | Less ↦ λ e. sym (ap is_lt (below_of R o z x y e h)) ∙ k
        | Equal ↦ λ e. refl
        | Greater ↦ λ e. refl
      ] refl

  -- a sorted list is in order, and the other way
  pub order_from_sorted : (xs : List K) → IsSorted R xs → InOrder R xs
  unfolding InOrder
  order_from_sorted [] s = tt
  order_from_sorted (x ∷ []) s = (tt, tt)
  order_from_sorted (x ∷ y ∷ ys) s =
      let first : is_lt (R y x) ≡ false = s 0 x (omega arith) (omega arith) in
      let rest = order_from_sorted (y ∷ ys) (λ k d low high. rw add-one (rw add-one at (s (suc k) d (omega arith) (omega arith)))) in
      ((first, all_more (λ z. is_lt (R z y) ≡ false) (λ z. is_lt (R z x) ≡ false) (λ z h. not_less x y z first h) ys rest.0), rest)

  pub sorted_from_order : (xs : List K) → InOrder R xs → IsSorted R xs
  unfolding InOrder
  sorted_from_order [] s k d low high = absurd (omega arith)
  sorted_from_order (x ∷ []) s k d low high = absurd (omega arith)
  sorted_from_order (x ∷ y ∷ ys) s zero d low high = s.0.0
  sorted_from_order (x ∷ y ∷ ys) s (suc k) d low high = rw add-one (rw add-one at (sorted_from_order (y ∷ ys) s.1 k d (omega arith) (omega arith)))

  all_repeated : (P : K → Type 0) (x : K) (xs : List K) → AllByRecursion P xs → AllByRecursion P (repeated_after R x xs)
  unfolding repeated_after
  all_repeated P x [] h = tt
  all_repeated P x (y ∷ ys) h =
      elim (eq_by_cmp R y x) as (λ b. AllByRecursion P (cond b (y ∷ repeated_after R y ys) (repeated_after R y ys))) [ true ↦ (h.0, all_repeated P y ys h.1) | false ↦ all_repeated P y ys h.1 ]

  order_after : (x : K) (xs : List K) → InOrder R (x ∷ xs) → InOrder R (repeated_after R x xs)
  unfolding InOrder repeated_after
  order_after x [] s = tt
  order_after x (y ∷ ys) s =
      elim (eq_by_cmp R y x) as (λ b. InOrder R (cond b (y ∷ repeated_after R y ys) (repeated_after R y ys))) [
        | true ↦ (all_repeated (λ z. is_lt (R z y) ≡ false) y ys s.1.0, order_after y ys s.1)
        | false ↦ order_after y ys s.1
      ]

  pub order_repeated : (xs : List K) → InOrder R xs → InOrder R (repeated_in R xs)
  unfolding InOrder repeated_in
  order_repeated [] s = tt
  order_repeated (x ∷ xs) s = order_after x xs s

  -- what comes after one that ties with q stands not there
  no_times : (q x : K) (xs : List K) → eq_by_cmp R q x ≡ true → AllByRecursion (λ z. R x z ≡ Less) xs → times R q xs ≡ 0
  unfolding times
  no_times q x [] t h = refl
  no_times q x (z ∷ zs) t h =
      let less : R q z ≡ Less = o.congr q x z ((Equal-is (R q x)).0 t) ∙ h.0 in
      rw less (no_times q x zs t h.1)

  twice_after : (x : K) (xs : List K) → InOrder R (x ∷ xs) → (q : K) → has R (repeated_after R x xs) q ≡ nat_lt 1 (times R q (x ∷ xs))
  unfolding InOrder repeated_after has times
  twice_after x [] s q = elim (eq_by_cmp R q x) as (λ b. false ≡ nat_lt 1 (length (cond b (x ∷ []) []))) [ true ↦ refl | false ↦ refl ]
  twice_after x (y ∷ ys) s q =
      let rest : has R (repeated_after R y ys) q ≡ nat_lt 1 (times R q (y ∷ ys)) = twice_after y ys s.1 q in
      elim (R y x) as (λ r. R y x ≡ r → list_any (eq_by_cmp R q) (cond (is_eq r) (y ∷ repeated_after R y ys) (repeated_after R y ys)) ≡ nat_lt 1 (length (cond (eq_by_cmp R q x) (x ∷ filter (eq_by_cmp R q) (y ∷ ys)) (filter (eq_by_cmp R q) (y ∷ ys))))) [
        | Less ↦ λ e. absurd (false≢true (sym s.0.0 ∙ ap is_lt e))
        | Equal ↦ λ e. subst (λ b. (eq_by_cmp R q y || list_any (eq_by_cmp R q) (repeated_after R y ys)) ≡ nat_lt 1 (length (cond b (x ∷ filter (eq_by_cmp R q) (y ∷ ys)) (filter (eq_by_cmp R q) (y ∷ ys))))) (ap is_eq (alike_right o y x q e)) (once_more (eq_by_cmp R q y) (list_any (eq_by_cmp R q) (repeated_after R y ys)) x y (filter (eq_by_cmp R q) ys) rest)
        | Greater ↦ λ e. rest ∙ elsewhere (eq_by_cmp R q x) refl (turned R o y x Greater e)
      ] refl
    where
      once_more : (b h : Bool) (v w : K) (zs : List K) → h ≡ nat_lt 1 (length (cond b (w ∷ zs) zs)) → (b || h) ≡ nat_lt 1 (length (cond b (v ∷ cond b (w ∷ zs) zs) (cond b (w ∷ zs) zs)))
      once_more true h v w zs e = sym (more_than_one (length zs))
      once_more false h v w zs e = e

      elsewhere : (b : Bool) → eq_by_cmp R q x ≡ b → R x y ≡ Less → nat_lt 1 (times R q (y ∷ ys)) ≡ nat_lt 1 (length (cond b (x ∷ filter (eq_by_cmp R q) (y ∷ ys)) (filter (eq_by_cmp R q) (y ∷ ys))))
      elsewhere true t less =
          let none : times R q (y ∷ ys) ≡ 0 = no_times q x (y ∷ ys) t (less, all_more (λ z. is_lt (R z y) ≡ false) (λ z. R x z ≡ Less) (λ z h. below_of R o x y z less h) ys s.1.0) in
          ap (nat_lt 1) none ∙ sym (ap (λ n. nat_lt 1 (suc n)) none)
      elsewhere false t less = refl

  pub twice_in : (xs : List K) → InOrder R xs → (q : K) → has R (repeated_in R xs) q ≡ nat_lt 1 (times R q xs)
  unfolding InOrder repeated_in has times
  twice_in [] s q = refl
  twice_in (x ∷ xs) s q = twice_after x xs s q

  pub times_moved : (q : K) (xs ys : List K) → IsPermutation xs ys → times R q ys ≡ times R q xs
  unfolding times
  times_moved q xs ys moved =
      length-filter (eq_by_cmp R q) ys
      ∙ sum_by-IsPermutation (λ x. cond (eq_by_cmp R q x) 1 0) xs ys moved
      ∙ sym (length-filter (eq_by_cmp R q) xs)

  -- a set has no more members than the list it is of
  pub in_order_few : (xs : List K) → length (in_order R xs) ≤ length xs
  unfolding in_order
  in_order_few [] = omega arith
  in_order_few (x ∷ xs) = omega (arith, put_longest R x (in_order R xs), in_order_few xs)

-- an iteration: what was repeated so far, and then what is left
pub repeated_more : (xs : List Identity) (i : ℕ) (x y : Identity) (so_far all : List Identity) → i + 1 < length xs → x ≡ get_or xs i x → y ≡ get_or xs (i + 1) y
    → so_far ++ repeated_in identity_cmp (drop i xs) ≡ all → cond (eq_by_cmp identity_cmp y x) (so_far ++ y ∷ []) so_far ++ repeated_in identity_cmp (drop (i + 1) xs) ≡ all
unfolding repeated_in repeated_after
repeated_more xs i x y so_far all below is next h =
    let plus : i + 1 ≡ suc i = omega arith in
    let second : drop (i + 1) xs ≡ y ∷ drop (suc (i + 1)) xs = drop-cons xs (i + 1) y below ∙ ap (λ (z : Identity). z ∷ drop (suc (i + 1)) xs) (sym next) in
    let first : drop i xs ≡ x ∷ y ∷ drop (suc (i + 1)) xs = drop-cons xs i x (omega arith) ∙ (λ j. sym is j ∷ (ap (λ (n : ℕ). drop n xs) (sym plus) ∙ second) j) in
    let now : so_far ++ repeated_in identity_cmp (x ∷ y ∷ drop (suc (i + 1)) xs) ≡ all = ap (λ (l : List Identity). so_far ++ repeated_in identity_cmp l) (sym first) ∙ h in
    ap (λ (l : List Identity). cond (eq_by_cmp identity_cmp y x) (so_far ++ y ∷ []) so_far ++ repeated_in identity_cmp l) second
    ∙ elim (eq_by_cmp identity_cmp y x) as (λ b. so_far ++ cond b (y ∷ repeated_after identity_cmp y (drop (suc (i + 1)) xs)) (repeated_after identity_cmp y (drop (suc (i + 1)) xs)) ≡ all → cond b (so_far ++ y ∷ []) so_far ++ repeated_after identity_cmp y (drop (suc (i + 1)) xs) ≡ all) [
      | true ↦ λ k. append_assoc so_far (y ∷ []) (repeated_after identity_cmp y (drop (suc (i + 1)) xs)) ∙ k
      | false ↦ λ k. k
    ] now

pub repeated_next : (xs : List Identity) (at : ℕ) (d : Identity) (so_far all : List Identity) → 0 < at → at < length xs → so_far ++ repeated_in identity_cmp (drop (at - 1) xs) ≡ all
    → cond (eq_by_cmp identity_cmp (get_or xs at d) (get_or xs (at - 1) d)) (so_far ++ get_or xs at d ∷ []) so_far ++ repeated_in identity_cmp (drop (at + 1 - 1) xs) ≡ all
repeated_next xs zero d so_far all some below h = absurd (omega arith)
repeated_next xs (suc i) d so_far all some below h =
    let before : suc i - 1 ≡ i = omega arith in
    let after : suc i + 1 - 1 ≡ i + 1 = omega arith in
    let plus : i + 1 ≡ suc i = omega arith in
    let x = get_or xs i d in
    let y = get_or xs (suc i) d in
    rw (after, before)
    (repeated_more xs i x y so_far all (omega arith) (get_or_default xs i d x (omega arith)) (rw plus (get_or_default xs (suc i) d y below)) (rw before at h))

-- nothing is repeated in what is left at the end
pub repeated_end : (xs : List Identity) (at : ℕ) (so_far all : List Identity) → length xs ≤ at → so_far ++ repeated_in identity_cmp (drop (at - 1) xs) ≡ all → so_far ≡ all
unfolding repeated_in repeated_after
repeated_end xs at so_far all h e =
    sym (append-nil so_far) ∙ ap (λ (l : List Identity). so_far ++ l) (sym (last xs (at - 1) (omega arith))) ∙ e
  where
    last : (ys : List Identity) (n : ℕ) → length ys ≤ n + 1 → repeated_in identity_cmp (drop n ys) ≡ []
    last [] zero l = refl
    last [] (suc n) l = refl
    last (y ∷ []) zero l = refl
    last (y ∷ z ∷ zs) zero l = absurd (omega arith)
    last (y ∷ ys) (suc n) l = last ys n (omega arith)

pub times_mapped : (rs : List PacketReport) (i : Identity) → times identity_cmp i (map identity_of rs) ≡ count_at rs i
unfolding times contents
times_mapped [] i = refl
times_mapped (r ∷ rs) i =
    let rest : length (filter (eq_by_cmp identity_cmp i) (map identity_of rs)) ≡ length (filter (has_identity i) rs) = times_mapped rs i in
    elim (has_identity i r) as (λ b. length (cond b (identity_of r ∷ filter (eq_by_cmp identity_cmp i) (map identity_of rs)) (filter (eq_by_cmp identity_cmp i) (map identity_of rs))) ≡ length (cond b (r ∷ filter (has_identity i) rs) (filter (has_identity i) rs))) [ true ↦ ap suc rest | false ↦ rest ]

-- the identities that two or more have are disputed
pub disputes_are : (rs : List PacketReport) (again found : List Identity) → ((i : Identity) → has identity_cmp again i ≡ nat_lt 1 (count_at rs i)) → found ≡ in_order identity_cmp again → found ≡ disputed rs
disputes_are rs again found twice is =
    is ∙ disputed_is rs (in_order identity_cmp again) (rises_in_order identity_cmp identity_total again) (λ i. has-in_order identity_cmp identity_total again i ∙ twice i)

filter_few : (p : Identity → Bool) (xs : List Identity) → length (filter p xs) ≤ length xs
filter_few p [] = omega arith
filter_few p (x ∷ xs) =
    elim (p x) as (λ b. length (cond b (x ∷ filter p xs) (filter p xs)) ≤ length (x ∷ xs)) [
      | true ↦ omega (arith, filter_few p xs)
      | false ↦ omega (arith, filter_few p xs)
    ]

-- no more are disputed than there are reports
pub disputed_few : (rs : List PacketReport) → length (disputed rs) ≤ length rs
unfolding disputed
disputed_few rs =
    omega (arith, filter_few (λ i. nat_lt 1 (length (contents rs i))) (in_order identity_cmp (map identity_of rs)), in_order_few identity_cmp identity_total (map identity_of rs), length-map rs identity_of)

-- a list of identities that was sorted, without its repeats
pub found_are : (again sorted found : List Identity) → IsPermutation again sorted → IsSorted identity_cmp sorted → found ≡ dedup (eq_by_cmp identity_cmp) sorted → found ≡ in_order identity_cmp again
found_are again sorted found moved rises is = set_is identity_cmp identity_total identity_exact (eq_by_cmp identity_cmp) (λ a b. refl) again sorted found moved rises is

-- a set with its disputed identities alone
pub kept_alone : (rs : List PacketReport) (found : List Identity) → IsStrictlySortedBy report_cmp rs → length rs ≤ 4194304 → found ≡ disputed rs → IsKept rs None found
kept_alone rs found rises few is = record {
  rises = rises;
  limit = few;
  disputed_are = is;
  fewer_disputed = omega (arith, ap length is, disputed_few rs);
  indexed = tt;
}
