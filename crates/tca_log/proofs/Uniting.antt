-- A log that gets many reports at once.
use Rattle.std.proofs.Common.{◌≡◌, suc, ◌+◌, ◌≤◌, Bool, true, false, not, ◌&&◌, ◌||◌, cond, List, [], ◌∷◌, ◌++◌, length, map, filter, refl, sym, ap, subst, ◌∙◌, arith}
use Rattle.std.specs.Prelude.{nat_lt}
use Rattle.std.proofs.lemmas.List.Sums.{length-filter}
use Rattle.std.specs.List.Sorted.{IsStrictlySortedBy, IsPermutation}
use Rattle.std.specs.Ordering.{eq_by_cmp}
use Rattle.std.specs.Cmp.{IsTotalOrder}
use Rattle.std.specs.declared.cmp.Ordering.{Ordering}
use Rattle.std.proofs.lemmas.Map.Lookups.{CmpEqualImpliesEq}
use Rattle.std.proofs.lemmas.List.Sorted.{IsPermutation-map, list_any-IsPermutation, length_permutation, sum_by-IsPermutation}
use Rattle.tca_join.specs.Sets.{has, put, in_order}
use Rattle.tca_join.proofs.Sets.{has-append, has-in_order, rises_in_order, only_one, all_more}
use Rattle.tca_report.specs.report.Reports.{PacketReport, report_cmp}
use Rattle.tca_report.specs.report.Identities.{identity_of, identity_cmp, identity_total}
use Rattle.tca_report.proofs.lemmas.report.Order.{report_total}
use Rattle.tca_report.specs.declared.report.Identity.{Identity}
use Rattle.tca_log.specs.declared.by_identity.ByIdentity.{ByIdentity}
use Rattle.tca_log.specs.Rows.Ordered.{put_each, without_each, AreApart}
use Rattle.tca_log.specs.Disputes.{has_identity, contents, disputed}
use Rattle.tca_log.specs.inside.Logs.{index_cmp, indexed, count_at, IsLog}
use Rattle.tca_log.specs.inside.Additions.{AreAdditions, AddedRows, with_reports, reports_in}
use Rattle.tca_log.proofs.OrderedRows.Each.{has-put_each, rises_put_each, all_put_each, length-put_each, still_apart, beyond_rises, beyond_apart, apart_none, put_each_none}
use Rattle.tca_log.proofs.Contents.{length-filter_put, disputed_rises, disputed_is, has-filter}
use Rattle.tca_log.proofs.Logs.{index_total, nothing}
use Rattle.tca_log.proofs.ReportAdditions.{additions_all, or_comm, or_true, put_each_longest}

reports_back : (rs : List PacketReport) → reports_in (map indexed rs) ≡ rs
reports_back [] = refl
reports_back (r ∷ rs) = ap (λ (l : List PacketReport). r ∷ l) (reports_back rs)

module _ (news : List PacketReport) (keys : List ByIdentity) (same : IsPermutation (map indexed news) keys) where
  moved : IsPermutation news (reports_in keys)
  moved = subst (λ (l : List PacketReport). IsPermutation l (reports_in keys)) (reports_back news) (IsPermutation-map (λ b. b.report) (map indexed news) keys same)

  pub count_moved : (i : Identity) → count_at (reports_in keys) i ≡ count_at news i
  unfolding contents
  count_moved i =
      length-filter (has_identity i) (reports_in keys)
      ∙ sum_by-IsPermutation (λ r. cond (has_identity i r) 1 0) news (reports_in keys) moved
      ∙ sym (length-filter (has_identity i) news)

  pub has_moved : (r : PacketReport) → has report_cmp (reports_in keys) r ≡ has report_cmp news r
  unfolding has
  has_moved r = sym (list_any-IsPermutation (eq_by_cmp report_cmp r) news (reports_in keys) moved)

  pub length_moved : length (reports_in keys) ≡ length news
  length_moved = length_permutation news (reports_in keys) moved

  pub length_keys : length keys ≡ length news
  length_keys = mapped keys ∙ length_moved
    where
      mapped : (ks : List ByIdentity) → length ks ≡ length (reports_in ks)
      mapped [] = refl
      mapped (k ∷ ks) = ap suc (mapped ks)

count_put_each : (news rs : List PacketReport) (i : Identity) → IsStrictlySortedBy report_cmp news → AreApart report_cmp news rs → count_at (put_each report_cmp news rs) i ≡ count_at rs i + count_at news i
unfolding put_each contents IsStrictlySortedBy
count_put_each [] rs i s a = omega arith
count_put_each (r ∷ news) rs i s a =
    count_put_each news (put report_cmp r rs) i s.1 (still_apart report_cmp report_total r news rs s.0 a.1)
    ∙ ap (λ n. n + length (filter (has_identity i) news)) (length-filter_put report_cmp (has_identity i) r rs a.0)
    ∙ elim (has_identity i r) as (λ b. (length (filter (has_identity i) rs) + cond b 1 0) + length (filter (has_identity i) news) ≡ length (filter (has_identity i) rs) + length (cond b (r ∷ filter (has_identity i) news) (filter (has_identity i) news))) [ true ↦ omega arith | false ↦ omega arith ]

-- the three parts with all that is new
module _ (rs : List PacketReport) (index : List ByIdentity) (disputed_identities : List Identity) (news : List PacketReport) (keys : List ByIdentity) (n : AddedRows) (log : IsLog rs index disputed_identities) (same : IsPermutation (map indexed news) keys)
    (is : n ≡ with_reports index disputed_identities keys (record { fresh = []; newly_disputed = [] })) where
  pub additions : AreAdditions rs index disputed_identities (reports_in keys) n.fresh n.newly_disputed
  additions = additions_all rs index disputed_identities keys n log is

  pub few_fresh : length n.fresh ≤ length news
  few_fresh = omega (arith, additions.fewer, length_moved news keys same)

  pub few_newly_disputed : length n.newly_disputed ≤ length news
  few_newly_disputed = omega (arith, additions.fewer_disputed, length_moved news keys same)

  pub united_log : IsStrictlySortedBy report_cmp news → AreApart report_cmp news rs → length rs + length news ≤ 4194304 → IsLog (put_each report_cmp news rs) (put_each index_cmp n.fresh index) (put_each identity_cmp n.newly_disputed disputed_identities)
  united_log s a few = record {
    rises = rises_put_each report_cmp report_total news rs log.rises;
    limit = omega (arith, longer, few);
    known = λ r. has-put_each index_cmp index_total n.fresh index (indexed r) ∙ or_comm (has index_cmp n.fresh (indexed r)) (has index_cmp index (indexed r)) ∙ additions.known r ∙ ap (nat_lt 0) (counts (identity_of r));
    among = all_put_each index_cmp index_total (λ b. has report_cmp (put_each report_cmp news rs) b.report ≡ true) n.fresh index
        (all_more (λ b. has report_cmp (reports_in keys) b.report ≡ true) (λ b. has report_cmp (put_each report_cmp news rs) b.report ≡ true) (λ b e. has-put_each report_cmp report_total news rs b.report ∙ ap (λ c. c || has report_cmp rs b.report) (sym (has_moved news keys same b.report) ∙ e)) n.fresh additions.among)
        (all_more (λ b. has report_cmp rs b.report ≡ true) (λ b. has report_cmp (put_each report_cmp news rs) b.report ≡ true) (λ b e. has-put_each report_cmp report_total news rs b.report ∙ ap (λ c. has report_cmp news b.report || c) e ∙ or_true (has report_cmp news b.report)) index log.among);
    disputed_are = disputed_is (put_each report_cmp news rs) (put_each identity_cmp n.newly_disputed disputed_identities) (rises_put_each identity_cmp identity_total n.newly_disputed disputed_identities (subst (IsStrictlySortedBy identity_cmp) (sym log.disputed_are) (disputed_rises rs)))
        (λ i. has-put_each identity_cmp identity_total n.newly_disputed disputed_identities i ∙ or_comm (has identity_cmp n.newly_disputed i) (has identity_cmp disputed_identities i) ∙ additions.disputed_are i ∙ ap (nat_lt 1) (counts i));
    fewer = omega (arith, put_each_longest index_cmp n.fresh index, few_fresh, log.fewer, longer);
    fewer_disputed = omega (arith, put_each_longest identity_cmp n.newly_disputed disputed_identities, few_newly_disputed, log.fewer_disputed, longer);
  }
    where
      counts : (i : Identity) → count_at rs i + count_at (reports_in keys) i ≡ count_at (put_each report_cmp news rs) i
      counts i = ap (λ m. count_at rs i + m) (count_moved news keys same i) ∙ sym (count_put_each news rs i s a)

      longer : length (put_each report_cmp news rs) ≡ length rs + length news
      longer = length-put_each report_cmp report_total news rs s a

-- a set with all that is new to it is the union
module _ {K : Type 0} (R : K → K → Ordering) (o : IsTotalOrder R) (exact : CmpEqualImpliesEq R) where
  or_beyond : (a b : Bool) → ((not a && b) || a) ≡ (a || b)
  or_beyond true b = refl
  or_beyond false true = refl
  or_beyond false false = refl

  pub union_is : (rs others : List K) → IsStrictlySortedBy R rs → put_each R (without_each R rs others) rs ≡ in_order R (rs ++ others)
  unfolding without_each
  union_is rs others s = only_one R o exact (put_each R (filter (λ x. not (has R rs x)) others) rs) (in_order R (rs ++ others)) (rises_put_each R o (filter (λ x. not (has R rs x)) others) rs s) (rises_in_order R o (rs ++ others)) (λ q.
      has-put_each R o (filter (λ x. not (has R rs x)) others) rs q
      ∙ ap (λ b. b || has R rs q) (has-filter R exact (λ x. not (has R rs x)) others q)
      ∙ or_beyond (has R rs q) (has R others q)
      ∙ sym (has-in_order R o (rs ++ others) q ∙ has-append R o rs others q))

  pub union_length : (rs others : List K) → IsStrictlySortedBy R rs → IsStrictlySortedBy R others → length (in_order R (rs ++ others)) ≡ length rs + length (without_each R rs others)
  union_length rs others s t = sym (ap length (union_is rs others s)) ∙ length-put_each R o (without_each R rs others) rs (beyond_rises R o rs others t) (beyond_apart R o rs others)

-- the index of reports by themselves
pub index_made : (rs : List PacketReport) (keys : List ByIdentity) (n : AddedRows) → IsPermutation (map indexed rs) keys → n ≡ with_reports [] [] keys (record { fresh = []; newly_disputed = [] })
    → IsStrictlySortedBy report_cmp rs → length rs ≤ 4194304 → (disputed_identities : List Identity) → disputed_identities ≡ disputed rs → IsLog rs (put_each index_cmp n.fresh []) disputed_identities
index_made rs keys n same is rises few disputed_identities all =
    let whole = united_log [] [] [] rs keys n nothing same is rises (apart_none report_cmp report_total rs) (omega (arith, few)) in
    let log : IsLog rs (put_each index_cmp n.fresh []) (put_each identity_cmp n.newly_disputed []) = subst (λ (l : List PacketReport). IsLog l (put_each index_cmp n.fresh []) (put_each identity_cmp n.newly_disputed [])) (put_each_none report_cmp report_total rs rises) whole in
    subst (IsLog rs (put_each index_cmp n.fresh [])) (log.disputed_are ∙ sym all) log
