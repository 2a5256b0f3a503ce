-- A list of reports that is gathered into a set.
use Rattle.std.proofs.Common.{◌≡◌, ℕ, suc, ◌+◌, ◌<◌, ◌≤◌, Bool, true, false, ◌||◌, cond, List, [], ◌∷◌, ◌++◌, length, get_or, take, drop, refl, sym, ap, ◌∙◌, add-one, arith}
use Rattle.std.proofs.Math.Seq.{drop-cons}
use Rattle.std.proofs.Math.ListN.{drop_of_length-le}
use Rattle.std.specs.List.{list_any, dedup, dedup_from}
use Rattle.std.specs.List.Sorted.{IsPermutation, IsSorted, IsStrictlySortedBy}
use Rattle.std.specs.Ordering.{eq_by_cmp}
use Rattle.std.specs.Cmp.{IsTotalOrder, Equal-is}
use Rattle.std.specs.declared.cmp.Ordering.{Ordering}
use Rattle.std.proofs.lemmas.List.{take-append-drop, take-append-le, take_all}
use Rattle.std.proofs.lemmas.List.Kept.{IsStrictlySortedBy-dedup}
use Rattle.std.proofs.lemmas.List.Sorted.{list_any-IsPermutation}
use Rattle.std.proofs.lemmas.Map.Lookups.{CmpEqualImpliesEq}
use Rattle.tca_join.specs.Sets.{has, in_order}
use Rattle.tca_join.proofs.Sets.{has-append, has-in_order, rises_in_order, only_one, or_again}
use Rattle.tca_join.proofs.Merge.{in_order_alike, in_order_of_rising}
use Rattle.tca_log.specs.Rows.Ordered.{without_each}
use Rattle.tca_log.proofs.OrderedRows.Each.{beyond_new, beyond_held, beyond_none}
use Rattle.tca_report.specs.report.Reports.{PacketReport, report_cmp}
use Rattle.tca_report.proofs.lemmas.report.Order.{report_total, report_exact}

-- a list behind which nothing of its memory is seen
pub seen : (list rest : List PacketReport) (n : ℕ) → length list ≡ n → take n (list ++ rest) ≡ list
seen list rest n is = take-append-le n list rest (omega (arith, is)) ∙ take_all n list (omega (arith, is))

or_held : (a b : Bool) → (b ≡ true → a ≡ true) → a ≡ (a || b)
or_held true b f = refl
or_held false true f = f refl
or_held false false f = refl

-- a sorted list of which each repeat is left out is the set of its members
module _ {K : Type 0} (R : K → K → Ordering) (o : IsTotalOrder R) (exact : CmpEqualImpliesEq R) (E : K → K → Bool) (ties : (x y : K) → E x y ≡ eq_by_cmp R x y) where
  kept_alike : (k : K) (xs : List K) (q : K) → has R (dedup_from E k xs) q ≡ has R (k ∷ xs) q
  unfolding has
  kept_alike k [] q = refl
  kept_alike k (x ∷ xs) q =
      elim (E x k) as (λ b. E x k ≡ b → list_any (eq_by_cmp R q) (cond b (dedup_from E k xs) (k ∷ dedup_from E x xs)) ≡ (eq_by_cmp R q k || (eq_by_cmp R q x || list_any (eq_by_cmp R q) xs))) [
        | true ↦ λ e.
            let same : x ≡ k = exact x k ((Equal-is (R x k)).0 (sym (ties x k) ∙ e)) in
            kept_alike k xs q ∙ or_again (eq_by_cmp R q k) (list_any (eq_by_cmp R q) xs) ∙ ap (λ (z : K). eq_by_cmp R q k || (eq_by_cmp R q z || list_any (eq_by_cmp R q) xs)) (sym same)
        | false ↦ λ e. ap (λ b. eq_by_cmp R q k || b) (kept_alike x xs q)
      ] refl

  all_alike : (xs : List K) (q : K) → has R (dedup E xs) q ≡ has R xs q
  all_alike [] q = refl
  all_alike (x ∷ xs) q = kept_alike x xs q

  pub set_is : (all sorted kept : List K) → IsPermutation all sorted → IsSorted R sorted → kept ≡ dedup E sorted → kept ≡ in_order R all
  unfolding has
  set_is all sorted kept moved s is =
      is ∙ only_one R o exact (dedup E sorted) (in_order R all) (IsStrictlySortedBy-dedup o ties sorted s) (rises_in_order R o all) (λ q.
      all_alike sorted q ∙ sym (list_any-IsPermutation (eq_by_cmp R q) all sorted moved) ∙ sym (has-in_order R o all q))

module _ {K : Type 0} (R : K → K → Ordering) (o : IsTotalOrder R) (exact : CmpEqualImpliesEq R) where
  -- the set of a list's members, whatever their order
  pub set_moved : (all moved : List K) → IsPermutation all moved → in_order R moved ≡ in_order R all
  unfolding has
  set_moved all moved is = in_order_alike R o exact moved all (λ q. sym (list_any-IsPermutation (eq_by_cmp R q) all moved is))

  -- the first of a list are its set where they rise, and the others are among them
  pub front_is_set : (all moved : List K) (n : ℕ) → IsPermutation all moved → IsStrictlySortedBy R (take n moved) → ((q : K) → has R (drop n moved) q ≡ true → has R (take n moved) q ≡ true) → take n moved ≡ in_order R all
  front_is_set all moved n is rises among =
      sym (in_order_of_rising R o exact (take n moved) rises)
      ∙ in_order_alike R o exact (take n moved) moved (λ q.
      or_held (has R (take n moved) q) (has R (drop n moved) q) (among q)
      ∙ sym (has-append R o (take n moved) (drop n moved) q)
      ∙ ap (λ l. has R l q) (take-append-drop n moved))
      ∙ set_moved all moved is

-- a list and the set of its members have one union with the rows
pub union_set : (rows reports : List PacketReport) → in_order report_cmp (rows ++ in_order report_cmp reports) ≡ in_order report_cmp (rows ++ reports)
union_set rows reports = in_order_alike report_cmp report_total report_exact (rows ++ in_order report_cmp reports) (rows ++ reports) (λ q.
    has-append report_cmp report_total rows (in_order report_cmp reports) q
    ∙ ap (λ b. has report_cmp rows q || b) (has-in_order report_cmp report_total reports q)
    ∙ sym (has-append report_cmp report_total rows reports q))

-- the next of a list
pub next_of : (xs : List PacketReport) (i : ℕ) (x : PacketReport) → i < length xs → x ≡ get_or xs i x → drop i xs ≡ x ∷ drop (i + 1) xs
next_of xs i x h is = rw add-one (drop-cons xs i x h ∙ ap (λ (y : PacketReport). y ∷ drop (suc i) xs) (sym is))

-- what is left to look at, after one more of the list
module _ (rows all : List PacketReport) (i : ℕ) (x : PacketReport) (h : i < length all) (is : x ≡ get_or all i x) where
  pub new_next : has report_cmp rows x ≡ false → without_each report_cmp rows (drop i all) ≡ x ∷ without_each report_cmp rows (drop (i + 1) all)
  new_next absent = ap (without_each report_cmp rows) (next_of all i x h is) ∙ beyond_new report_cmp report_total rows x (drop (i + 1) all) absent

  pub held_next : has report_cmp rows x ≡ true → without_each report_cmp rows (drop i all) ≡ without_each report_cmp rows (drop (i + 1) all)
  held_next there = ap (without_each report_cmp rows) (next_of all i x h is) ∙ beyond_held report_cmp report_total rows x (drop (i + 1) all) there

pub none_left : (rows all : List PacketReport) (i : ℕ) → length all ≤ i → without_each report_cmp rows (drop i all) ≡ []
none_left rows all i h = ap (without_each report_cmp rows) (drop_of_length-le all h) ∙ beyond_none report_cmp report_total rows
