-- Sets whose domains are apart, two and any number of them.
use Rattle.std.proofs.Common.{◌≡◌, ℕ, ◌+◌, Bool, true, false, not, ◌||◌, eqb, List, [], ◌∷◌, ◌++◌, length, map, filter, is_none, refl, sym, ap, ◌∙◌}
use Rattle.std.specs.List.{AllByRecursion, list_all, enumerate_from}
use Rattle.std.specs.List.Sorted.{IsStrictlySortedBy}
use Rattle.std.proofs.lemmas.Bool.{false≢true}
use Rattle.tca_join.specs.SetLaws.{union}
use Rattle.tca_join.proofs.Sets.{all_more, rises_in_order}
use Rattle.tca_report.specs.report.Reports.{PacketReport, report_cmp}
use Rattle.tca_report.proofs.lemmas.report.Order.{report_total}
use Rattle.tca_log.specs.Disputes.{disputed, undisputed}
use Rattle.tca_accounts.specs.Plans.{AccountPlan, PlannedAccount, owns, pair_of, account_of}
use Rattle.tca_accounts.specs.Bills.{bill_of, is_number, coloured_in, reports_of, tally_of}
use Rattle.tca_accounts.specs.declared.bill.Bill.{Bill}
use Rattle.tca_accounts.specs.declared.tally.Tally.{Tally}
use Rattle.tca_shards.specs.Shards.{added_tallies, added_accounts, has_domain, has_none_of, is_one_sided, united, summed, Pairwise, HaveDomainsApart, DomainsApartAddUp, AllDomainsApartAddUp}
use Rattle.tca_shards.proofs.Kept.{all_both, either, length_split}
use Rattle.tca_shards.proofs.Sides.{on_side, kept_split, disputed_split, first_side, second_side}
use Rattle.tca_shards.proofs.Owned.{owners_own, all_numbered}
use Rattle.tca_shards.proofs.Shards.{tally_split, off_it}
use Rattle.tca_shards.proofs.ManyShards.{or_left, or_right, both_true, parts_true, own_domains, not_first, all_append, all_in_order}

not_both : (a b : Bool) → a ≡ true → (b ≡ true → not a ≡ true) → not b ≡ true
not_both a false h k = refl
not_both true true h k = k refl
not_both false true h k = absurd (false≢true h)

module _ (plan : AccountPlan) (xs ys : List PacketReport) (first : IsStrictlySortedBy report_cmp xs) (second : IsStrictlySortedBy report_cmp ys) (s : HaveDomainsApart plan xs ys) where
  abbrev both : List PacketReport
  both = union report_cmp xs ys

  abbrev tally : List PacketReport → ℕ × PlannedAccount → Tally
  tally rs a = tally_of plan.period (coloured_in a.1 (reports_of plan a.0 rs))

  abbrev Owns : ℕ × PlannedAccount → Type 0
  Owns a = (r : PacketReport) → is_number a.0 (account_of plan r) ≡ true → owns a.1 (pair_of r) ≡ true

  -- the domains that the second set doesn't have
  abbrev off_second : ℕ → Bool
  off_second d = not (has_domain ys d)

  firsts_off : AllByRecursion (λ (r : PacketReport). off_second r.domain ≡ true) xs
  firsts_off =
      all_more (λ (r : PacketReport). has_domain xs r.domain ≡ true) (λ (r : PacketReport). off_second r.domain ≡ true)
      (λ r h. not_both (has_domain xs r.domain) (has_domain ys r.domain) h (not_first xs ys s.apart r.domain)) xs (own_domains xs)

  seconds_on : AllByRecursion (λ (r : PacketReport). off_second r.domain ≡ false) ys
  seconds_on = all_more (λ (r : PacketReport). has_domain ys r.domain ≡ true) (λ (r : PacketReport). off_second r.domain ≡ false) (λ r h. ap not h) ys (own_domains ys)

  by_side : (f : ℕ → Bool) → AllByRecursion (λ (r : PacketReport). f r.domain ≡ true) xs → AllByRecursion (λ (r : PacketReport). f r.domain ≡ false) ys
      → (a : ℕ × PlannedAccount) → Owns a → is_one_sided f a.1 ≡ true → tally both a ≡ added_tallies (tally xs a) (tally ys a)
  by_side f within apart a own one =
      tally_split plan f both a own one
      ∙ (λ i. added_tallies (tally (first_side f xs ys first second within apart i) a) (tally (second_side f xs ys first second within apart i) a))

  tally_apart : (a : ℕ × PlannedAccount) → Owns a → (has_none_of xs a.1 || has_none_of ys a.1) ≡ true → tally both a ≡ added_tallies (tally xs a) (tally ys a)
  tally_apart a own h =
      either (has_none_of xs a.1) (has_none_of ys a.1)
      (λ none. by_side (has_domain xs) (own_domains xs) s.apart a own
      (or_right (list_all (λ (p : ℕ × ℕ). has_domain xs p.0) a.1.pairs) (list_all (λ (p : ℕ × ℕ). not (has_domain xs p.0)) a.1.pairs) none))
      (λ none. by_side off_second firsts_off seconds_on a own
      (or_left (list_all (λ (p : ℕ × ℕ). off_second p.0) a.1.pairs) (list_all (λ (p : ℕ × ℕ). not (off_second p.0)) a.1.pairs) none)) h

  tallies_apart : (accounts : List (ℕ × PlannedAccount)) → AllByRecursion Owns accounts → AllByRecursion (λ (a : ℕ × PlannedAccount). (has_none_of xs a.1 || has_none_of ys a.1) ≡ true) accounts
      → map (tally both) accounts ≡ added_accounts (map (tally xs) accounts) (map (tally ys) accounts)
  unfolding added_accounts
  tallies_apart [] own h = refl
  tallies_apart (a ∷ accounts) own h = λ i. tally_apart a own.0 h.0 i ∷ tallies_apart accounts own.1 h.1 i

  the_first : filter (on_side (has_domain xs)) both ≡ xs
  the_first = first_side (has_domain xs) xs ys first second (own_domains xs) s.apart

  the_second : filter (λ (r : PacketReport). not (has_domain xs r.domain)) both ≡ ys
  the_second = second_side (has_domain xs) xs ys first second (own_domains xs) s.apart

  counts_add_up : length both ≡ length xs + length ys
  counts_add_up = length_split (on_side (has_domain xs)) both ∙ (λ j. length (the_first j) + length (the_second j))

  disputed_add_up : length (disputed both) ≡ length (disputed xs) + length (disputed ys)
  disputed_add_up = disputed_split (has_domain xs) both ∙ (λ j. length (disputed (the_first j)) + length (disputed (the_second j)))

  kept_add_up : (p : PacketReport → Bool) → length (filter p (undisputed both)) ≡ length (filter p (undisputed xs)) + length (filter p (undisputed ys))
  kept_add_up p = kept_split (has_domain xs) both p ∙ (λ j. length (filter p (undisputed (the_first j))) + length (filter p (undisputed (the_second j))))

pub domains_apart_add_up : DomainsApartAddUp
domains_apart_add_up plan xs ys first second s = λ i. record {
  reports = counts_add_up plan xs ys first second s i;
  disputed = disputed_add_up plan xs ys first second s i;
  unassigned = kept_add_up plan xs ys first second s (λ r. is_none (account_of plan r)) i;
  accounts = tallies_apart plan xs ys first second s (enumerate_from 0 plan.accounts) (owners_own plan)
      (all_numbered (λ a. (has_none_of xs a || has_none_of ys a) ≡ true) 0 plan.accounts s.accounts) i;
}

neither : (a b : Bool) → (a || b) ≡ false → (a ≡ false) × (b ≡ false)
neither true b h = absurd (false≢true (sym h))
neither false b h = (refl, h)

each_other : (rs : List PacketReport) (d : ℕ) → has_domain rs d ≡ false → AllByRecursion (λ (r : PacketReport). eqb r.domain d ≡ false) rs
each_other [] d h = tt
each_other (r ∷ rs) d h = let n = neither (eqb r.domain d) (has_domain rs d) h in (n.0, each_other rs d n.1)

none_has : (rs : List PacketReport) (d : ℕ) → AllByRecursion (λ (r : PacketReport). eqb r.domain d ≡ false) rs → has_domain rs d ≡ false
none_has [] d h = refl
none_has (r ∷ rs) d h = λ i. h.0 i || none_has rs d h.1 i

module _ (rs more : List PacketReport) where
  -- a domain that neither set has isn't in their union
  not_united : (d : ℕ) → has_domain rs d ≡ false → has_domain more d ≡ false → has_domain (union report_cmp rs more) d ≡ false
  not_united d h k =
      none_has (union report_cmp rs more) d
      (all_in_order (λ (r : PacketReport). eqb r.domain d ≡ false) (rs ++ more)
      (all_append (λ (r : PacketReport). eqb r.domain d ≡ false) rs more (each_other rs d h) (each_other more d k)))

  none_united : (pairs : List (ℕ × ℕ)) → list_all (λ (p : ℕ × ℕ). not (has_domain rs p.0)) pairs ≡ true → list_all (λ (p : ℕ × ℕ). not (has_domain more p.0)) pairs ≡ true
      → list_all (λ (p : ℕ × ℕ). not (has_domain (union report_cmp rs more) p.0)) pairs ≡ true
  none_united [] h k = refl
  none_united (p ∷ pairs) h k =
      let m = parts_true (not (has_domain rs p.0)) (list_all (λ (p : ℕ × ℕ). not (has_domain rs p.0)) pairs) h in
      let n = parts_true (not (has_domain more p.0)) (list_all (λ (p : ℕ × ℕ). not (has_domain more p.0)) pairs) k in
      both_true (not (has_domain (union report_cmp rs more) p.0)) (list_all (λ (p : ℕ × ℕ). not (has_domain (union report_cmp rs more) p.0)) pairs)
      (ap not (not_united p.0 (off_it (has_domain rs p.0) m.0) (off_it (has_domain more p.0) n.0)))
      (none_united pairs m.1 n.1)

  one_of : (zs : List PacketReport) (a : PlannedAccount) → (has_none_of rs a || has_none_of zs a) ≡ true → (has_none_of more a || has_none_of zs a) ≡ true
      → (has_none_of (union report_cmp rs more) a || has_none_of zs a) ≡ true
  one_of zs a h k =
      either (has_none_of rs a) (has_none_of zs a)
      (λ m. either (has_none_of more a) (has_none_of zs a)
      (λ n. or_left (has_none_of (union report_cmp rs more) a) (has_none_of zs a) (none_united a.pairs m n))
      (λ n. or_right (has_none_of (union report_cmp rs more) a) (has_none_of zs a) n) k)
      (λ m. or_right (has_none_of (union report_cmp rs more) a) (has_none_of zs a) m) h

  -- what is apart from each of two sets is apart from their union
  pub united_apart : (plan : AccountPlan) (zs : List PacketReport) → HaveDomainsApart plan rs zs → HaveDomainsApart plan more zs → HaveDomainsApart plan (union report_cmp rs more) zs
  united_apart plan zs h k = record {
    apart = all_both (λ (r : PacketReport). has_domain rs r.domain ≡ false) (λ (r : PacketReport). has_domain more r.domain ≡ false)
        (λ (r : PacketReport). has_domain (union report_cmp rs more) r.domain ≡ false) zs (λ r. not_united r.domain) h.apart k.apart;
    accounts = all_both (λ (a : PlannedAccount). (has_none_of rs a || has_none_of zs a) ≡ true) (λ (a : PlannedAccount). (has_none_of more a || has_none_of zs a) ≡ true)
        (λ (a : PlannedAccount). (has_none_of (union report_cmp rs more) a || has_none_of zs a) ≡ true) plan.accounts (one_of zs) h.accounts k.accounts;
  }

module _ (plan : AccountPlan) where
  set_by_set : (rs : List PacketReport) (sets : List (List PacketReport)) → IsStrictlySortedBy report_cmp rs → AllByRecursion (λ (s : List PacketReport). IsStrictlySortedBy report_cmp s) sets
      → AllByRecursion (HaveDomainsApart plan rs) sets → Pairwise (HaveDomainsApart plan) sets
      → bill_of plan (united rs sets) ≡ summed (bill_of plan rs) (map (bill_of plan) sets)
  unfolding united summed
  set_by_set rs [] sorted rise first each = refl
  set_by_set rs (s ∷ sets) sorted rise first each =
      set_by_set (union report_cmp rs s) sets (rises_in_order report_cmp report_total (rs ++ s)) rise.1
      (all_both (HaveDomainsApart plan rs) (HaveDomainsApart plan s) (HaveDomainsApart plan (union report_cmp rs s)) sets (united_apart rs s plan) first.1 each.0) each.1
      ∙ ap (λ (b : Bill). summed b (map (bill_of plan) sets)) (domains_apart_add_up plan rs s sorted rise.0 first.0)

pub all_domains_apart_add_up : AllDomainsApartAddUp
all_domains_apart_add_up plan rs sets rise apart = set_by_set plan rs sets rise.0 rise.1 apart.0 apart.1
