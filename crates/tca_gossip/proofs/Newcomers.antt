-- Which reports of a list are new at their turn, all at once and one by one.
use Rattle.std.proofs.Common.{◌≡◌, ℕ, zero, suc, ◌+◌, ◌<◌, ◌≤◌, Bool, true, false, true≢false, not, ◌||◌, cond, Some, Result, Ok, Err, IsOk, List, [], ◌∷◌, ◌++◌, map, length, take, get_or, slice_get, option_map, refl, sym, ap, ◌∙◌, subst, arith, length-append}
use Rattle.std.proofs.lemmas.List.{append-nil}
use Rattle.std.proofs.lemmas.Bool.{or_right}
use Rattle.std.specs.List.{slice_set, AllByRecursion}
use Rattle.std.proofs.lemmas.Option.{get_or_from_slice_get, slice_get-get_or, slice_get-map}
use Rattle.std.specs.List.Sorted.{IsBinarySearchResult, IsSearchInRange, IsStrictlySortedBy}
use Rattle.std.specs.Ordering.{eq_by_cmp, is_eq, ordering_reverse}
use Rattle.std.specs.declared.cmp.Ordering.{Ordering}
use Rattle.std.specs.declared.cmp.Ordering.TheVariants.{Less, Equal, Greater}
use Rattle.tca_report.specs.report.Reports.{PacketReport, report_cmp}
use Rattle.tca_report.proofs.lemmas.report.Order.{report_total, report_exact}
use Rattle.tca_join.specs.Sets.{by_order, has, put, in_order}
use Rattle.tca_join.proofs.Sets.{has-put, has-append, has-in_order, rises_put, rises_in_order, or_assoc, or_swap}
use Rattle.tca_join.proofs.Search.{gap_at, put_again, searchable}
use Rattle.tca_join.proofs.Merge.{in_order_alike, in_order_of_rising}
use Rattle.tca_gossip.specs.Replicas.{ReplicaView, appended, fresh_of, taken, with_origin}
use Rattle.tca_gossip.proofs.Sizes.{put_new}
use Rattle.tca_gossip.proofs.TakeSteps.{take_next}

-- with one report more
known : (log xs : List PacketReport) (x r : PacketReport) → has report_cmp log x ≡ true → (has report_cmp log r || has report_cmp xs r) ≡ (has report_cmp log r || (eq_by_cmp report_cmp r x || has report_cmp xs r))
known log xs x r there =
    elim (report_cmp r x) as (λ o. report_cmp r x ≡ o → (has report_cmp log r || has report_cmp xs r) ≡ (has report_cmp log r || (is_eq o || has report_cmp xs r))) [
      | Less ↦ λ e. refl
      | Equal ↦ λ e.
          let same : has report_cmp log r ≡ true = subst (λ (q : PacketReport). has report_cmp log q ≡ true) (sym (report_exact r x e)) there in
          rw same refl
      | Greater ↦ λ e. refl
    ] refl

put_member : (log xs : List PacketReport) (x r : PacketReport) → (has report_cmp (put report_cmp x log) r || has report_cmp xs r) ≡ (has report_cmp log r || (eq_by_cmp report_cmp r x || has report_cmp xs r))
put_member log xs x r =
    ap (λ b. b || has report_cmp xs r) (has-put report_cmp report_total x log r)
    ∙ or_assoc (eq_by_cmp report_cmp r x) (has report_cmp log r) (has report_cmp xs r)
    ∙ or_swap (eq_by_cmp report_cmp r x) (has report_cmp log r) (has report_cmp xs r)

pub fresh_next : (log xs : List PacketReport) (r : PacketReport) → fresh_of log (xs ++ r ∷ []) ≡ fresh_of log xs ++ cond (has report_cmp log r || has report_cmp xs r) [] (r ∷ [])
unfolding fresh_of has
fresh_next log [] r = elim (has report_cmp log r) as (λ b. cond b [] (r ∷ []) ≡ cond (b || false) [] (r ∷ [])) [ true ↦ refl | false ↦ refl ]
fresh_next log (x ∷ xs) r =
    elim (has report_cmp log x) as (λ b. has report_cmp log x ≡ b → cond b (fresh_of log (xs ++ r ∷ [])) (x ∷ fresh_of (put report_cmp x log) (xs ++ r ∷ [])) ≡ cond b (fresh_of log xs) (x ∷ fresh_of (put report_cmp x log) xs) ++ cond (has report_cmp log r || (eq_by_cmp report_cmp r x || has report_cmp xs r)) [] (r ∷ [])) [
      | true ↦ λ there. fresh_next log xs r ∙ ap (λ b. fresh_of log xs ++ cond b [] (r ∷ [])) (known log xs x r there)
      | false ↦ λ new. ap (λ (l : List PacketReport). x ∷ l) (fresh_next (put report_cmp x log) xs r ∙ ap (λ b. fresh_of (put report_cmp x log) xs ++ cond b [] (r ∷ [])) (put_member log xs x r))
    ] refl

-- a log with a list has the same reports as with those that are new
put_front : (log rs : List PacketReport) (r : PacketReport) → in_order report_cmp (put report_cmp r log ++ rs) ≡ in_order report_cmp (log ++ (r ∷ rs))
unfolding has
put_front log rs r =
    in_order_alike report_cmp report_total report_exact (put report_cmp r log ++ rs) (log ++ (r ∷ rs)) (λ q.
    has-append report_cmp report_total (put report_cmp r log) rs q
    ∙ put_member log rs r q
    ∙ sym (has-append report_cmp report_total log (r ∷ rs) q))

held_front : (log rs : List PacketReport) (r : PacketReport) → IsStrictlySortedBy report_cmp log → has report_cmp log r ≡ true → in_order report_cmp (log ++ (r ∷ rs)) ≡ in_order report_cmp (log ++ rs)
held_front log rs r sorted there = sym (put_front log rs r) ∙ ap (λ (l : List PacketReport). in_order report_cmp (l ++ rs)) (put_again report_cmp report_total report_exact log r sorted there)

pub fresh_logs : (log rs : List PacketReport) → IsStrictlySortedBy report_cmp log → in_order report_cmp (log ++ rs) ≡ in_order report_cmp (log ++ fresh_of log rs)
unfolding fresh_of
fresh_logs log [] sorted = refl
fresh_logs log (r ∷ rs) sorted =
    elim (has report_cmp log r) as (λ b. has report_cmp log r ≡ b → in_order report_cmp (log ++ (r ∷ rs)) ≡ in_order report_cmp (log ++ cond b (fresh_of log rs) (r ∷ fresh_of (put report_cmp r log) rs))) [
      | true ↦ λ there. held_front log rs r sorted there ∙ fresh_logs log rs sorted
      | false ↦ λ new. sym (put_front log rs r) ∙ fresh_logs (put report_cmp r log) rs (rises_put report_cmp report_total r log sorted) ∙ put_front log (fresh_of (put report_cmp r log) rs) r
    ] refl

-- and grows by as many as are new
one_on : (a b c n m : ℕ) → n ≡ c + a → c ≡ suc b → m ≡ n → m ≡ b + suc a
one_on a b c n m p q s = omega (arith, p, q, s)

pub fresh_count : (log rs : List PacketReport) → IsStrictlySortedBy report_cmp log → length (in_order report_cmp (log ++ rs)) ≡ length log + length (fresh_of log rs)
unfolding fresh_of
fresh_count log [] sorted = omega (arith, ap length (ap (in_order report_cmp) (append-nil log) ∙ in_order_of_rising report_cmp report_total report_exact log sorted))
fresh_count log (r ∷ rs) sorted =
    elim (has report_cmp log r) as (λ b. has report_cmp log r ≡ b → length (in_order report_cmp (log ++ (r ∷ rs))) ≡ length log + length (cond b (fresh_of log rs) (r ∷ fresh_of (put report_cmp r log) rs))) [
      | true ↦ λ there. ap length (held_front log rs r sorted there) ∙ fresh_count log rs sorted
      | false ↦ λ new. one_on (length (fresh_of (put report_cmp r log) rs)) (length log) (length (put report_cmp r log)) (length (in_order report_cmp (put report_cmp r log ++ rs))) (length (in_order report_cmp (log ++ (r ∷ rs))))
          (fresh_count (put report_cmp r log) rs (rises_put report_cmp report_total r log sorted)) (put_new r log new) (ap length (sym (put_front log rs r)))
    ] refl

-- how many reports there are once each stands once
put_few : (k : PacketReport) (xs : List PacketReport) → length (put report_cmp k xs) ≤ suc (length xs)
unfolding put
put_few k [] = omega arith
put_few k (x ∷ xs) =
    elim (report_cmp k x) as (λ r. length (by_order r (k ∷ x ∷ xs) (x ∷ xs) (x ∷ put report_cmp k xs)) ≤ suc (suc (length xs))) [
      | Less ↦ omega arith
      | Equal ↦ omega arith
      | Greater ↦ omega (arith, put_few k xs)
    ]

in_order_few : (xs : List PacketReport) → length (in_order report_cmp xs) ≤ length xs
unfolding in_order
in_order_few [] = omega arith
in_order_few (x ∷ xs) = omega (arith, put_few x (in_order report_cmp xs), in_order_few xs)

-- a report that is there makes them fewer
one_less : (log rs : List PacketReport) (r : PacketReport) → IsStrictlySortedBy report_cmp log → has report_cmp log r ≡ true → length (in_order report_cmp (log ++ (r ∷ rs))) ≤ length log + length rs
one_less log rs r sorted there = omega (arith, ap length (held_front log rs r sorted there), in_order_few (log ++ rs), length-append log rs)

no_more : (a b n : ℕ) → suc a + b ≤ n → n ≤ b + a → ⊥
no_more a b n p q = omega (arith, p, q)

one_less_left : (a b c n m : ℕ) → suc a + b ≤ n → c ≡ suc b → m ≡ n → a + c ≤ m
one_less_left a b c n m p q s = omega (arith, p, q, s)

-- where a log grew by as many as came, each was new at its turn
pub all_fresh : (log rs : List PacketReport) → IsStrictlySortedBy report_cmp log → length rs + length log ≤ length (in_order report_cmp (log ++ rs)) → fresh_of log rs ≡ rs
unfolding fresh_of
all_fresh log [] sorted all = refl
all_fresh log (r ∷ rs) sorted all =
    elim (has report_cmp log r) as (λ b. has report_cmp log r ≡ b → cond b (fresh_of log rs) (r ∷ fresh_of (put report_cmp r log) rs) ≡ r ∷ rs) [
      | true ↦ λ there. absurd (no_more (length rs) (length log) (length (in_order report_cmp (log ++ (r ∷ rs)))) all (one_less log rs r sorted there))
      | false ↦ λ new. ap (λ (l : List PacketReport). r ∷ l) (all_fresh (put report_cmp r log) rs (rises_put report_cmp report_total r log sorted)
          (one_less_left (length rs) (length log) (length (put report_cmp r log)) (length (in_order report_cmp (log ++ (r ∷ rs)))) (length (in_order report_cmp (put report_cmp r log ++ rs))) all (put_new r log new) (ap length (put_front log rs r))))
    ] refl

-- what a list brings to a log, by its set and by what is new of it
pub set_alike : (log set reports : List PacketReport) → set ≡ in_order report_cmp reports → in_order report_cmp (log ++ set) ≡ in_order report_cmp (log ++ reports)
unfolding has
set_alike log set reports is =
    in_order_alike report_cmp report_total report_exact (log ++ set) (log ++ reports) (λ q.
    has-append report_cmp report_total log set q
    ∙ ap (λ b. has report_cmp log q || b) (ap (λ (l : List PacketReport). has report_cmp l q) is ∙ has-in_order report_cmp report_total reports q)
    ∙ sym (has-append report_cmp report_total log reports q))

module _ (log set reports : List PacketReport) (is : set ≡ in_order report_cmp reports) where
  pub set_brings : (fresh : List PacketReport) → IsStrictlySortedBy report_cmp log → fresh ≡ fresh_of log reports → in_order report_cmp (log ++ set) ≡ in_order report_cmp (log ++ fresh)
  set_brings fresh sorted e = set_alike log set reports is ∙ fresh_logs log reports sorted ∙ ap (λ (l : List PacketReport). in_order report_cmp (log ++ l)) (sym e)

  pub fresh_bring : (fresh : List PacketReport) → IsStrictlySortedBy report_cmp log → fresh ≡ fresh_of log reports → length fresh + length log ≤ length (in_order report_cmp (log ++ fresh))
  fresh_bring fresh sorted e =
      let all : length (in_order report_cmp (log ++ fresh)) ≡ length log + length (fresh_of log reports) =
      ap (λ (l : List PacketReport). length (in_order report_cmp (log ++ l))) e ∙ ap length (sym (fresh_logs log reports sorted)) ∙ fresh_count log reports sorted in
      omega (arith, all, ap length e)

  pub whole_fresh : length log ≡ 0 → length set ≡ length reports → fresh_of log reports ≡ reports
  unfolding IsStrictlySortedBy
  whole_fresh none each = go log none where
    go : (log : List PacketReport) → length log ≡ 0 → fresh_of log reports ≡ reports
    go [] e = all_fresh [] reports tt (omega (arith, each, ap length is))
    go (x ∷ xs) e = absurd (omega (arith, e))

-- which of a set are in no log and not among those so far
abbrev pub open_of : List PacketReport → List PacketReport → PacketReport → Bool
open_of log xs q = not (has report_cmp log q || has report_cmp xs q)

pub open_first : (log set : List PacketReport) → map (λ q. not (has report_cmp log q)) set ≡ map (open_of log []) set
unfolding has
open_first log [] = refl
open_first log (s ∷ ss) = λ i. elim (has report_cmp log s) as (λ b. not b ≡ not (b || false)) [ true ↦ refl | false ↦ refl ] i ∷ open_first log ss i

itself : (r : PacketReport) → eq_by_cmp report_cmp r r ≡ true
itself r =
    elim (report_cmp r r) as (λ o. report_cmp r r ≡ o → o ≡ ordering_reverse o → is_eq o ≡ true) [
      | Less ↦ λ e t. absurd cc
      | Equal ↦ λ e t. refl
      | Greater ↦ λ e t. absurd cc
    ] refl (report_total.antisymm r r)

now_in : (xs : List PacketReport) (r : PacketReport) → has report_cmp (xs ++ r ∷ []) r ≡ true
unfolding has
now_in [] r = rw (itself r) refl
now_in (x ∷ xs) r = or_right _ _ (now_in xs r)

closed : (log xs : List PacketReport) (r : PacketReport) → open_of log (xs ++ r ∷ []) r ≡ false
closed log xs r = ap not (or_right (has report_cmp log r) (has report_cmp (xs ++ r ∷ []) r) (now_in xs r))

not_one : (b : Bool) → (b || (false || false)) ≡ b
not_one true = refl
not_one false = refl

as_before : (log xs : List PacketReport) (r q : PacketReport) → eq_by_cmp report_cmp q r ≡ false → open_of log xs q ≡ open_of log (xs ++ r ∷ []) q
unfolding has
as_before log xs r q other =
    ap (λ b. not (has report_cmp log q || b)) (sym (has-append report_cmp report_total xs (r ∷ []) q ∙ ap (λ b. has report_cmp xs q || (b || false)) other ∙ not_one (has report_cmp xs q)))

below : (s r : PacketReport) → report_cmp s r ≡ Less → (eq_by_cmp report_cmp s r ≡ false) × (eq_by_cmp report_cmp r s ≡ false)
below s r e = (ap is_eq e, ap is_eq (report_total.antisymm r s ∙ ap ordering_reverse e))

later_as_before : (log xs set : List PacketReport) (r : PacketReport) → AllByRecursion (λ y. report_cmp r y ≡ Less) set → map (open_of log xs) set ≡ map (open_of log (xs ++ r ∷ [])) set
later_as_before log xs [] r above = refl
later_as_before log xs (s ∷ ss) r above = λ i. as_before log xs r s (below r s above.0).1 i ∷ later_as_before log xs ss r above.1 i

all_at : (P : PacketReport → Type 0) (xs : List PacketReport) (at : ℕ) (r : PacketReport) → AllByRecursion P xs → slice_get xs at ≡ Some r → P r
all_at P [] at r all e = absurd cc
all_at P (x ∷ xs) zero r all e = let same : x ≡ r = cc in subst P same all.0
all_at P (x ∷ xs) (suc at) r all e = all_at P xs at r all.1 e

pub open_next : (log xs set : List PacketReport) (r : PacketReport) (at : ℕ) → IsStrictlySortedBy report_cmp set → slice_get set at ≡ Some r → slice_set (map (open_of log xs) set) at false ≡ map (open_of log (xs ++ r ∷ [])) set
unfolding IsStrictlySortedBy
open_next log xs [] r at sorted e = absurd cc
open_next log xs (s ∷ ss) r zero sorted e =
    let same : s ≡ r = cc in
    let above = subst (λ (q : PacketReport). AllByRecursion (λ y. report_cmp q y ≡ Less) ss) same sorted.0 in
    let here : false ≡ open_of log (xs ++ r ∷ []) s = sym (ap (open_of log (xs ++ r ∷ [])) same ∙ closed log xs r) in
    λ i. here i ∷ later_as_before log xs ss r above i
open_next log xs (s ∷ ss) r (suc at) sorted e =
    λ i. as_before log xs r s (below s r (all_at (λ y. report_cmp s y ≡ Less) ss at r sorted.0 e)).0 i ∷ open_next log xs ss r at sorted.1 e i

-- a report that equals one of a set stands there
tied : (o : Ordering) → is_eq o ≡ true → o ≡ Equal
tied Less e = absurd cc
tied Equal e = refl
tied Greater e = absurd cc

pub place_same : (set : List PacketReport) (x r : PacketReport) (at : ℕ) → at < length set → x ≡ get_or set at x → eq_by_cmp report_cmp x r ≡ true → slice_get set at ≡ Some r
place_same set x r at within is same = slice_get-get_or set at x within ∙ ap Some (sym is ∙ report_exact x r (tied (report_cmp x r) same))

-- where a report of a set stands
pub place_found : (set : List PacketReport) (r : PacketReport) (at : Result ℕ ℕ) → IsStrictlySortedBy report_cmp set → has report_cmp set r ≡ true → IsSearchInRange at (length set) → IsBinarySearchResult (λ y. report_cmp y r) set at → IsOk at
place_found set r (Ok at) sorted there bound found = refl
place_found set r (Err at) sorted there bound part = absurd (true≢false (sym there ∙ (gap_at report_cmp report_total set at r bound (part (searchable report_cmp report_total set r sorted))).0))

pub place_is : (set : List PacketReport) (r : PacketReport) (found : Result ℕ ℕ) (at : ℕ) → found ≡ Ok at → IsSearchInRange found (length set) → IsBinarySearchResult (λ y. report_cmp y r) set found → slice_get set at ≡ Some r
place_is set r found at is bound ties =
    let within : at < length set = rw is at bound in
    let held = rw is at ties in
    slice_get-get_or set at r within ∙ ap Some (report_exact (get_or set at r) r (held r))

-- a report of a list is in the list's set
item_there : (reports : List PacketReport) (i : ℕ) (r : PacketReport) → i < length reports → r ≡ get_or reports i r → has report_cmp reports r ≡ true
unfolding has
item_there [] i r h is = absurd (omega arith)
item_there (x ∷ xs) zero r h is = subst (λ (q : PacketReport). (eq_by_cmp report_cmp r q || has report_cmp xs r) ≡ true) is (rw (itself r) refl)
item_there (x ∷ xs) (suc i) r h is = or_right _ _ (item_there xs i r (omega arith) is)

pub there_in_set : (set reports : List PacketReport) (i : ℕ) (r : PacketReport) → set ≡ in_order report_cmp reports → i < length reports → r ≡ get_or reports i r → has report_cmp set r ≡ true
there_in_set set reports i r is h item = ap (λ (l : List PacketReport). has report_cmp l r) is ∙ has-in_order report_cmp report_total reports r ∙ item_there reports i r h item

pub set_rises : (set reports : List PacketReport) → set ≡ in_order report_cmp reports → IsStrictlySortedBy report_cmp set
set_rises set reports is = subst (IsStrictlySortedBy report_cmp) (sym is) (rises_in_order report_cmp report_total reports)

pub none_first : (log : List PacketReport) → [] ≡ fresh_of log []
unfolding fresh_of
none_first log = refl

-- going through a list: one report further
module _ (log reports : List PacketReport) (i : ℕ) (r : PacketReport) (h : i < length reports) (is : r ≡ get_or reports i r) where
  pub left_next : (set : List PacketReport) (at : ℕ) (marks : List Bool) → IsStrictlySortedBy report_cmp set → slice_get set at ≡ Some r → marks ≡ map (open_of log (take i reports)) set → slice_set marks at false ≡ map (open_of log (take (i + 1) reports)) set
  left_next set at marks sorted there left =
      ap (λ (l : List Bool). slice_set l at false) left
      ∙ open_next log (take i reports) set r at sorted there
      ∙ ap (λ (l : List PacketReport). map (open_of log l) set) (sym (take_next reports i r h is))

  next_is : fresh_of log (take (i + 1) reports) ≡ fresh_of log (take i reports) ++ cond (has report_cmp log r || has report_cmp (take i reports) r) [] (r ∷ [])
  next_is = ap (fresh_of log) (take_next reports i r h is) ∙ fresh_next log (take i reports) r

  pub new_next : (fresh : List PacketReport) (b : Bool) → fresh ≡ fresh_of log (take i reports) → b ≡ open_of log (take i reports) r → b ≡ true → fresh ++ r ∷ [] ≡ fresh_of log (take (i + 1) reports)
  new_next fresh b so_far mark new =
      elim (has report_cmp log r || has report_cmp (take i reports) r) as (λ c. b ≡ not c → fresh_of log (take (i + 1) reports) ≡ fresh_of log (take i reports) ++ cond c [] (r ∷ []) → fresh ++ r ∷ [] ≡ fresh_of log (take (i + 1) reports)) [
        | true ↦ λ m n. absurd cc
        | false ↦ λ m n. ap (λ (l : List PacketReport). l ++ r ∷ []) so_far ∙ sym n
      ] mark next_is

  pub old_next : (fresh : List PacketReport) (b : Bool) → fresh ≡ fresh_of log (take i reports) → b ≡ open_of log (take i reports) r → b ≡ false → fresh ≡ fresh_of log (take (i + 1) reports)
  old_next fresh b so_far mark old =
      elim (has report_cmp log r || has report_cmp (take i reports) r) as (λ c. b ≡ not c → fresh_of log (take (i + 1) reports) ≡ fresh_of log (take i reports) ++ cond c [] (r ∷ []) → fresh ≡ fresh_of log (take (i + 1) reports)) [
        | true ↦ λ m n. so_far ∙ sym (append-nil (fresh_of log (take i reports))) ∙ sym n
        | false ↦ λ m n. absurd cc
      ] mark next_is

pub mark_is : (log xs set : List PacketReport) (marks : List Bool) (at : ℕ) (r : PacketReport) (b : Bool) → slice_get set at ≡ Some r → marks ≡ map (open_of log xs) set → b ≡ get_or marks at b → b ≡ open_of log xs r
mark_is log xs set marks at r b there left is =
    is ∙ get_or_from_slice_get marks at (open_of log xs r) b (ap (λ (l : List Bool). slice_get l at) left ∙ slice_get-map (open_of log xs) set at ∙ ap (option_map (open_of log xs)) there)

-- a list with nothing new
pub none_taken : (v : ReplicaView) (reports fresh : List PacketReport) → fresh ≡ fresh_of v.log reports → length fresh ≡ 0 → v ≡ taken v reports
unfolding appended with_origin
none_taken v reports [] is none = ap (λ (l : List PacketReport). appended v (with_origin v.name l)) is
none_taken v reports (x ∷ xs) is none = absurd (omega (arith, none))
