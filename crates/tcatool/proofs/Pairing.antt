-- The pairs of reports, and what is kept of them while reports are counted.
use Rattle.std.proofs.Common.{◌≡◌, ◌∙◌, ℕ, zero, suc, ◌+◌, ◌*◌, ◌<◌, ◌≤◌, ◌==◌, Bool, true, false, ◌&&◌, ◌||◌, cond, List, [], ◌∷◌, ◌++◌, length, get_or, set, ap, ap₂, sym, subst, refl, true≢false, arith}
use Rattle.std.specs.Prelude.{map, sum_by, if◌then◌else◌, Result, Ok, Err, IsOk}
use Rattle.std.specs.List.{AllByRecursion, Contains, filter, list_any}
use Rattle.std.specs.List.Sorted.{IsBinarySearchResult, IsSearchInRange, IsStrictlySortedBy}
use Rattle.std.specs.Ordering.{eq_by_cmp, is_eq, nat_cmp, ordering_then}
use Rattle.std.specs.declared.cmp.Ordering.{Ordering}
use Rattle.std.specs.declared.cmp.Ordering.TheVariants.{Less, Equal, Greater}
use Rattle.std.specs.Cmp.{IsTotalOrder, nat_cmp_total, tied_itself, unsigned_tied}
use Rattle.std.proofs.Math.Dec.{eqb-suc-zero}
use Rattle.std.proofs.lemmas.Bool.{or_right}
use Rattle.std.proofs.lemmas.Cmp.{on_total, then_total}
use Rattle.std.proofs.lemmas.List.{get_or-map, length-append}
use Rattle.std.proofs.lemmas.List.Kept.{IsStrictlySortedBy-filter}
use Rattle.std.proofs.lemmas.List.Sums.{sum_by-append}
use Rattle.std.proofs.lemmas.Map.Lookups.{CmpEqualImpliesEq, exact_pairs, exact_unsigned}
use Rattle.tca_join.specs.Sets.{has}
use Rattle.tca_join.proofs.Sets.{has-in_order, rises_in_order}
use Rattle.tca_join.proofs.Search.{gap_at, searchable}
use Rattle.tca_log.specs.Disputes.{undisputed}
use Rattle.tca_log.proofs.OrderedRows.Each.{members}
use Rattle.tca_log.proofs.OrderedRows.Parts.{turned}
use Rattle.tca_report.specs.report.Reports.{PacketReport, report_cmp}
use Rattle.tca_accounts.proofs.Bills.{filter_few, rest_later}
use Rattle.tcatool.specs.Paired.{AreUsages, IsUsage, of_pair, pair_cmp, pair_of, pairs_of, same_pair}
use Rattle.tcatool.specs.inside.Pairing.{first_time, last_time, usage_so_far}
use Rattle.tcatool.specs.declared.pairs.Pair.{Pair}
use Rattle.tcatool.specs.declared.pairs.PairUsage.{PairUsage}
use Rattle.tcatool.proofs.Differing.{kept, left}

-- the order of pairs
pub pair_total : IsTotalOrder pair_cmp
pair_total = then_total (on_total (λ p. p.domain) nat_cmp_total) (on_total (λ p. p.interface) nat_cmp_total)

pub pair_exact : CmpEqualImpliesEq pair_cmp
pair_exact a b h = ap (λ (f : ℕ × ℕ). record { domain = f.0; interface = f.1 }) (exact_pairs nat_cmp nat_cmp exact_unsigned exact_unsigned (a.domain, a.interface) (b.domain, b.interface) h)

is_eq_then : (m n : ℕ) (b : Bool) (o : Ordering) → b ≡ is_eq o → ((m == n) && b) ≡ is_eq (ordering_then (nat_cmp m n) o)
is_eq_then m n b o e = (λ i. sym (unsigned_tied m n) i && e i) ∙ sym (parts (nat_cmp m n) o)
  where
    parts : (p q : Ordering) → is_eq (ordering_then p q) ≡ (is_eq p && is_eq q)
    parts Less q = refl
    parts Equal q = refl
    parts Greater q = refl

pub same_is : (a b : Pair) → same_pair a b ≡ eq_by_cmp pair_cmp a b
same_is a b = is_eq_then a.domain b.domain _ _ (sym (unsigned_tied a.interface b.interface))

same_itself : (p : Pair) → same_pair p p ≡ true
same_itself p = same_is p p ∙ rw (tied_itself pair_total p) refl

below : (p q : Pair) → pair_cmp p q ≡ Less → same_pair p q ≡ false
below p q h = same_is p q ∙ rw h refl

above : (p q : Pair) → pair_cmp q p ≡ Less → same_pair p q ≡ false
above p q h = same_is p q ∙ rw (turned pair_cmp pair_total q p Less h) refl

at_all : {K : Type 0} (P : K → Type 0) (xs : List K) (at : ℕ) (d : K) → AllByRecursion P xs → at < length xs → P (get_or xs at d)
at_all P [] at d h low = absurd (omega arith)
at_all P (x ∷ xs) zero d h low = h.0
at_all P (x ∷ xs) (suc at) d h low = at_all P xs at d h.1 (omega arith)

-- what is kept of each pair, where only one pair changes
module _ (f g : Pair → PairUsage) (q : Pair) (others : (p : Pair) → same_pair p q ≡ false → f p ≡ g p) where
  unchanged : (ps : List Pair) → AllByRecursion (λ x. pair_cmp q x ≡ Less) ps → map f ps ≡ map g ps
  unchanged [] h = refl
  unchanged (p ∷ ps) h = ap₂ (λ (x : PairUsage) (xs : List PairUsage). x ∷ xs) (others p (above p q h.0)) (unchanged ps h.1)

  pub changed_at : (ps : List Pair) (at : ℕ) → IsStrictlySortedBy pair_cmp ps → at < length ps → get_or ps at q ≡ q → set (map f ps) at (g q) ≡ map g ps
  unfolding IsStrictlySortedBy
  changed_at [] at s low is = absurd (omega arith)
  changed_at (p ∷ ps) zero s low is =
      ap₂ (λ (x : PairUsage) (xs : List PairUsage). x ∷ xs) (ap g (sym is)) (unchanged ps (subst (λ (z : Pair). AllByRecursion (λ x. pair_cmp z x ≡ Less) ps) is s.0))
  changed_at (p ∷ ps) (suc at) s low is =
      ap₂ (λ (x : PairUsage) (xs : List PairUsage). x ∷ xs)
      (others p (below p q (subst (λ (z : Pair). pair_cmp p z ≡ Less) is (at_all (λ x. pair_cmp p x ≡ Less) ps at q s.0 (omega arith)))))
      (changed_at ps at s.1 (omega arith) is)

first_more : (l : List PacketReport) (r : PacketReport) → (if length l == 0 then r.time else first_time l) ≡ first_time (l ++ r ∷ [])
first_more [] r = refl
first_more (x ∷ l) r = ap (λ b. if b then r.time else x.time) (eqb-suc-zero (length l))

last_more : (l : List PacketReport) (r : PacketReport) → last_time (l ++ r ∷ []) ≡ r.time
last_more [] r = refl
last_more (x ∷ []) r = refl
last_more (x ∷ y ∷ l) r = last_more (y ∷ l) r

module _ (xs ys : List PacketReport) (r : PacketReport) where
  abbrev q : Pair
  q = pair_of r

  -- one report more
  counted_here : record (usage_so_far xs ys q) { reports = length (of_pair q xs) + 1; first = if length (of_pair q xs) == 0 then r.time else first_time (of_pair q xs); last = r.time } ≡ usage_so_far (xs ++ r ∷ []) ys q
  counted_here =
      let more : of_pair q (xs ++ r ∷ []) ≡ of_pair q xs ++ r ∷ [] = kept (λ x. same_pair q (pair_of x)) xs r (same_itself q) in
      rw more (λ i. record {
        pair = q;
        reports = sym (length-append (of_pair q xs) (r ∷ [])) i;
        packets = length (of_pair q ys);
        octets = sum_by (λ x. x.octets) (of_pair q ys);
        first = first_more (of_pair q xs) r i;
        last = sym (last_more (of_pair q xs) r) i;
      })

  counted_elsewhere : (p : Pair) → same_pair p q ≡ false → usage_so_far xs ys p ≡ usage_so_far (xs ++ r ∷ []) ys p
  counted_elsewhere p apart =
      rw (left (λ x. same_pair p (pair_of x)) xs r apart) refl

  -- one settled report more
  added_here : record (usage_so_far xs ys q) { packets = length (of_pair q ys) + 1; octets = sum_by (λ x. x.octets) (of_pair q ys) + r.octets } ≡ usage_so_far xs (ys ++ r ∷ []) q
  added_here =
      let more : of_pair q (ys ++ r ∷ []) ≡ of_pair q ys ++ r ∷ [] = kept (λ x. same_pair q (pair_of x)) ys r (same_itself q) in
      let one : sum_by (λ (x : PacketReport). x.octets) (r ∷ []) ≡ r.octets = omega arith in
      rw more (λ i. record {
        pair = q;
        reports = length (of_pair q xs);
        packets = sym (length-append (of_pair q ys) (r ∷ [])) i;
        octets = sym (sum_by-append (λ x. x.octets) (of_pair q ys) (r ∷ []) ∙ ap (λ n. sum_by (λ x. x.octets) (of_pair q ys) + n) one) i;
        first = first_time (of_pair q xs);
        last = last_time (of_pair q xs);
      })

  added_elsewhere : (p : Pair) → same_pair p q ≡ false → usage_so_far xs ys p ≡ usage_so_far xs (ys ++ r ∷ []) p
  added_elsewhere p apart =
      rw (left (λ x. same_pair p (pair_of x)) ys r apart) refl

  module _ (pairs : List Pair) (at : ℕ) (rises : IsStrictlySortedBy pair_cmp pairs) (low : at < length pairs) (is : get_or pairs at q ≡ q) (usages : List PairUsage) (so_far : usages ≡ map (usage_so_far xs ys) pairs)
      (old new : PairUsage) (old_is : old ≡ get_or usages at old) where
    pub old_at : old ≡ usage_so_far xs ys q
    old_at =
        old_is ∙ ap (λ (l : List PairUsage). get_or l at old) so_far ∙ get_or-map (usage_so_far xs ys) pairs at q old low ∙ ap (usage_so_far xs ys) is

    pub count_step : (time : ℕ) → time ≡ r.time → new ≡ record old { reports = old.reports + 1; first = if old.reports == 0 then time else old.first; last = time } → set usages at new ≡ map (usage_so_far (xs ++ r ∷ []) ys) pairs
    count_step time its new_is =
        let new_at : new ≡ usage_so_far (xs ++ r ∷ []) ys q =
        new_is
        ∙ ap (λ (n : ℕ). record old { reports = old.reports + 1; first = if old.reports == 0 then n else old.first; last = n }) its
        ∙ ap (λ (u : PairUsage). record u { reports = u.reports + 1; first = if u.reports == 0 then r.time else u.first; last = r.time }) old_at ∙ counted_here in
        ap₂ (λ (l : List PairUsage) (u : PairUsage). set l at u) so_far new_at ∙ changed_at (usage_so_far xs ys) (usage_so_far (xs ++ r ∷ []) ys) q counted_elsewhere pairs at rises low is

    pub add_step : (octets : ℕ) → octets ≡ r.octets → new ≡ record old { packets = old.packets + 1; octets = old.octets + octets } → set usages at new ≡ map (usage_so_far xs (ys ++ r ∷ [])) pairs
    add_step octets its new_is =
        let new_at : new ≡ usage_so_far xs (ys ++ r ∷ []) q =
        new_is
        ∙ ap (λ (n : ℕ). record old { packets = old.packets + 1; octets = old.octets + n }) its
        ∙ ap (λ (u : PairUsage). record u { packets = u.packets + 1; octets = u.octets + r.octets }) old_at ∙ added_here in
        ap₂ (λ (l : List PairUsage) (u : PairUsage). set l at u) so_far new_at ∙ changed_at (usage_so_far xs ys) (usage_so_far xs (ys ++ r ∷ [])) q added_elsewhere pairs at rises low is

-- the pairs of reports, and their members
pub pairs_rise : (rs : List PacketReport) → IsStrictlySortedBy pair_cmp (pairs_of rs)
pairs_rise rs = rises_in_order pair_cmp pair_total (map pair_of rs)

inside : (seen : List PacketReport) (r : PacketReport) (rest : List PacketReport) → has pair_cmp (map pair_of (seen ++ r ∷ rest)) (pair_of r) ≡ true
unfolding has
inside [] r rest = rw (tied_itself pair_total (pair_of r)) refl
inside (x ∷ seen) r rest = or_right _ _ (inside seen r rest)

or_more : (b c d : Bool) → (c ≡ true → d ≡ true) → (b || c) ≡ true → (b || d) ≡ true
or_more true c d f h = refl
or_more false c d f h = f h

from_part : (p : PacketReport → Bool) (rs : List PacketReport) (k : Pair) → has pair_cmp (map pair_of (filter p rs)) k ≡ true → has pair_cmp (map pair_of rs) k ≡ true
unfolding has
from_part p [] k h = h
from_part p (r ∷ rs) k h =
    elim (p r) as (λ b. list_any (eq_by_cmp pair_cmp k) (map pair_of (cond b (r ∷ filter p rs) (filter p rs))) ≡ true → (eq_by_cmp pair_cmp k (pair_of r) || list_any (eq_by_cmp pair_cmp k) (map pair_of rs)) ≡ true) [
      | true ↦ λ e. or_more (eq_by_cmp pair_cmp k (pair_of r)) _ _ (from_part p rs k) e
      | false ↦ λ e. or_right _ _ (from_part p rs k e)
    ] h

pub pair_there : (rs seen : List PacketReport) (r : PacketReport) (rest : List PacketReport) → seen ++ r ∷ rest ≡ rs → has pair_cmp (pairs_of rs) (pair_of r) ≡ true
pair_there rs seen r rest is = has-in_order pair_cmp pair_total (map pair_of rs) (pair_of r) ∙ subst (λ (l : List PacketReport). has pair_cmp (map pair_of l) (pair_of r) ≡ true) is (inside seen r rest)

pub settled_there : (rs seen : List PacketReport) (r : PacketReport) (rest : List PacketReport) → seen ++ r ∷ rest ≡ undisputed rs → has pair_cmp (pairs_of rs) (pair_of r) ≡ true
unfolding undisputed
settled_there rs seen r rest is =
    has-in_order pair_cmp pair_total (map pair_of rs) (pair_of r) ∙ from_part _ rs (pair_of r) (subst (λ (l : List PacketReport). has pair_cmp (map pair_of l) (pair_of r) ≡ true) is (inside seen r rest))

-- a search for a pair that is there
pub pair_found : (xs : List Pair) (p : Pair) (r : Result ℕ ℕ) → IsStrictlySortedBy pair_cmp xs → has pair_cmp xs p ≡ true → IsSearchInRange r (length xs) → IsBinarySearchResult (λ y. pair_cmp y p) xs r → IsOk r
pair_found xs p (Ok at) s there bound found = refl
pair_found xs p (Err at) s there bound part = absurd (true≢false (sym there ∙ (gap_at pair_cmp pair_total xs at p bound (part (searchable pair_cmp pair_total xs p s))).0))

pub pair_at : (xs : List Pair) (p : Pair) (r : Result ℕ ℕ) (at : ℕ) → r ≡ Ok at → IsBinarySearchResult (λ y. pair_cmp y p) xs r → get_or xs at p ≡ p
pair_at xs p r at is found = let held = rw is at found in pair_exact (get_or xs at p) p (held p)

-- one report comes next, so there are fewer so far
pub fewer : (all seen : List PacketReport) (r : PacketReport) (rest : List PacketReport) → seen ++ r ∷ rest ≡ all → length seen < length all
fewer all seen r rest is = omega (arith, ap length is, length-append seen (r ∷ rest))

pub sum_step : (seen : List PacketReport) (r : PacketReport) → r.octets < 4294967296 → sum_by (λ x. x.octets) seen ≤ 4294967296 * length seen → sum_by (λ x. x.octets) (seen ++ r ∷ []) ≤ 4294967296 * length (seen ++ r ∷ [])
sum_step seen r small so_far =
    let one : sum_by (λ (x : PacketReport). x.octets) (r ∷ []) ≡ r.octets = omega arith in
    omega (arith, small, so_far, one, sum_by-append (λ (x : PacketReport). x.octets) seen (r ∷ []), length-append seen (r ∷ []))

-- a part of reports is not more than all, nor are its octets
pub pair_few : (p : Pair) (xs : List PacketReport) → length (of_pair p xs) ≤ length xs
pair_few p xs = filter_few (λ r. same_pair p (pair_of r)) xs

abbrev octets_of : List PacketReport → ℕ
octets_of xs = sum_by (λ r. r.octets) xs

one_sum : (x : PacketReport) → octets_of (x ∷ []) ≡ x.octets
one_sum x = omega arith

first_sum : (x : PacketReport) (xs : List PacketReport) → octets_of (x ∷ xs) ≡ x.octets + octets_of xs
first_sum x xs = sum_by-append (λ r. r.octets) (x ∷ []) xs ∙ ap (λ n. n + octets_of xs) (one_sum x)

with_both : (x : PacketReport) (l xs : List PacketReport) → octets_of l ≤ octets_of xs → octets_of (x ∷ l) ≤ octets_of (x ∷ xs)
with_both x l xs h = omega (arith, h, first_sum x l, first_sum x xs)

with_one : (x : PacketReport) (l xs : List PacketReport) → octets_of l ≤ octets_of xs → octets_of l ≤ octets_of (x ∷ xs)
with_one x l xs h = omega (arith, h, first_sum x xs)

pub part_of_sum : (p : PacketReport → Bool) (xs : List PacketReport) → sum_by (λ r. r.octets) (filter p xs) ≤ sum_by (λ r. r.octets) xs
part_of_sum p [] = omega arith
part_of_sum p (x ∷ xs) =
    elim (p x) as (λ b. octets_of (cond b (x ∷ filter p xs) (filter p xs)) ≤ octets_of (x ∷ xs)) [ true ↦ with_both x (filter p xs) xs (part_of_sum p xs) | false ↦ with_one x (filter p xs) xs (part_of_sum p xs) ]

-- the first of reports that rise has the least time, the last the greatest
first_of : (xs : List PacketReport) → 0 < length xs → IsStrictlySortedBy report_cmp xs → Contains (map (λ r. r.time) xs) (first_time xs) × AllByRecursion (λ (r : PacketReport). first_time xs ≤ r.time) xs
first_of [] some s = absurd (omega arith)
first_of (r ∷ xs) some s = ((0, omega arith, refl), (omega arith, (rest_later r xs s).0))

last_of : (xs : List PacketReport) → 0 < length xs → IsStrictlySortedBy report_cmp xs → Contains (map (λ r. r.time) xs) (last_time xs) × AllByRecursion (λ (r : PacketReport). r.time ≤ last_time xs) xs
last_of [] some s = absurd (omega arith)
last_of (r ∷ []) some s = ((0, omega arith, refl), (omega arith, tt))
last_of (r ∷ q ∷ xs) some s =
    let later = rest_later r (q ∷ xs) s in
    let rest = last_of (q ∷ xs) (omega arith) later.1 in
    ((suc rest.0.0, omega (arith, rest.0.1), rest.0.2), (omega (arith, later.0.0, rest.1.0), rest.1))

some_of : (p : Pair) (rs : List PacketReport) → has pair_cmp (map pair_of rs) p ≡ true → 0 < length (of_pair p rs)
unfolding has
some_of p [] h = absurd cc
some_of p (r ∷ rs) h =
    elim (same_pair p (pair_of r)) as (λ b. (b || list_any (eq_by_cmp pair_cmp p) (map pair_of rs)) ≡ true → 0 < length (cond b (r ∷ of_pair p rs) (of_pair p rs))) [
      | true ↦ λ e. omega arith
      | false ↦ λ e. some_of p rs e
    ] (ap (λ b. b || list_any (eq_by_cmp pair_cmp p) (map pair_of rs)) (same_is p (pair_of r)) ∙ h)

usage_is : (rs : List PacketReport) → IsStrictlySortedBy report_cmp rs → (p : Pair) → has pair_cmp (map pair_of rs) p ≡ true → IsUsage rs (usage_so_far rs (undisputed rs) p)
usage_is rs s p there =
    let some = some_of p rs there in
    let rises = IsStrictlySortedBy-filter report_cmp (λ r. same_pair p (pair_of r)) rs s in
    let first = first_of (of_pair p rs) some rises in
    let last = last_of (of_pair p rs) some rises in
    record { reports = refl; packets = refl; octets = refl; first = first.0; least = first.1; last = last.0; greatest = last.1 }

their_pairs : (rs ys : List PacketReport) (ps : List Pair) → map (λ u. u.pair) (map (usage_so_far rs ys) ps) ≡ ps
their_pairs rs ys [] = refl
their_pairs rs ys (p ∷ ps) = ap (λ (l : List Pair). p ∷ l) (their_pairs rs ys ps)

each_usage : (rs : List PacketReport) → IsStrictlySortedBy report_cmp rs → (all ps : List Pair) → all ≡ pairs_of rs → AllByRecursion (λ p. has pair_cmp all p ≡ true) ps → AllByRecursion (IsUsage rs) (map (usage_so_far rs (undisputed rs)) ps)
each_usage rs s all [] is h = tt
each_usage rs s all (p ∷ ps) is h =
    (usage_is rs s p (sym (has-in_order pair_cmp pair_total (map pair_of rs) p) ∙ subst (λ (l : List Pair). has pair_cmp l p ≡ true) is h.0), each_usage rs s all ps is h.1)

-- all reports and all settled ones were counted
pub usages_are : (rs : List PacketReport) → IsStrictlySortedBy report_cmp rs → (us : List PairUsage) → us ≡ map (usage_so_far rs (undisputed rs)) (pairs_of rs) → AreUsages rs us
usages_are rs s us is = rw is (record {
  pairs = their_pairs rs (undisputed rs) (pairs_of rs);
  each = each_usage rs s (pairs_of rs) (pairs_of rs) refl (members pair_cmp pair_total (pairs_of rs));
})
