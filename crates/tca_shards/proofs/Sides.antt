-- The reports of one side of the domains.
use Rattle.std.proofs.Common.{◌≡◌, ℕ, ◌+◌, Bool, true, false, not, ◌&&◌, ◌||◌, List, [], ◌++◌, length, filter, refl, sym, ap, ◌∙◌}
use Rattle.std.specs.Prelude.{nat_lt, ◌==◌}
use Rattle.std.specs.List.{AllByRecursion}
use Rattle.std.specs.List.Sorted.{IsStrictlySortedBy}
use Rattle.std.specs.Cmp.{Equal-is}
use Rattle.std.proofs.lemmas.List.Kept.{IsStrictlySortedBy-filter}
use Rattle.tca_join.specs.Sets.{has}
use Rattle.tca_join.specs.SetLaws.{union}
use Rattle.tca_join.proofs.Sets.{has-append, has-in_order, rises_in_order, only_one}
use Rattle.tca_report.specs.report.Reports.{PacketReport, report_cmp}
use Rattle.tca_report.specs.report.Identities.{identity_of, identity_cmp}
use Rattle.tca_report.proofs.lemmas.report.Order.{report_total, report_exact}
use Rattle.tca_report.proofs.lemmas.report.Identities.{identity_exact}
use Rattle.tca_report.specs.declared.report.Identity.{Identity}
use Rattle.tca_log.specs.Disputes.{has_identity, contents, disputed, undisputed}
use Rattle.tca_log.specs.inside.Logs.{count_at}
use Rattle.tca_log.proofs.Contents.{has-filter, has-disputed, disputed_rises, disputed_is}
use Rattle.tca_shards.proofs.Kept.{filter_within, filter_apart, filter_swap, length_split, of_member, left_kept, right_kept}

pub same_domain : (i : Identity) (r : PacketReport) → has_identity i r ≡ true → r.domain ≡ i.domain
same_domain i r h = sym (ap (λ (j : Identity). j.domain) (identity_exact i (identity_of r) ((Equal-is (identity_cmp i (identity_of r))).0 h)))

module _ (side : ℕ → Bool) where
  abbrev pub on_side : PacketReport → Bool
  on_side r = side r.domain

  pub contents_of_side : (rs : List PacketReport) (i : Identity) → side i.domain ≡ true → contents (filter on_side rs) i ≡ contents rs i
  unfolding contents
  contents_of_side rs i e = filter_within (has_identity i) on_side rs (λ r h. ap side (same_domain i r h) ∙ e)

  pub contents_of_other : (rs : List PacketReport) (i : Identity) → side i.domain ≡ false → contents (filter on_side rs) i ≡ []
  unfolding contents
  contents_of_other rs i e = filter_apart (has_identity i) on_side rs (λ r h. ap side (same_domain i r h) ∙ e)

  -- the undisputed reports of a side are those of the whole that are on it
  pub undisputed_of_side : (rs : List PacketReport) → undisputed (filter on_side rs) ≡ filter on_side (undisputed rs)
  unfolding undisputed
  undisputed_of_side rs =
      filter_swap (λ r. length (contents (filter on_side rs) (identity_of r)) == 1) (λ r. length (contents rs (identity_of r)) == 1) on_side rs
      (λ r e. ap (λ (l : List PacketReport). length l == 1) (contents_of_side rs (identity_of r) e))

  -- and so the disputed identities
  pub disputed_of_side : (rs : List PacketReport) → filter (λ (i : Identity). side i.domain) (disputed rs) ≡ disputed (filter on_side rs)
  disputed_of_side rs =
      disputed_is (filter on_side rs) (filter (λ (i : Identity). side i.domain) (disputed rs))
      (IsStrictlySortedBy-filter identity_cmp (λ (i : Identity). side i.domain) (disputed rs) (disputed_rises rs)) (λ i.
      has-filter identity_cmp identity_exact (λ (i : Identity). side i.domain) (disputed rs) i
      ∙ ap (λ b. side i.domain && b) (has-disputed rs i)
      ∙ elim (side i.domain) as (λ b. side i.domain ≡ b → (b && nat_lt 1 (count_at rs i)) ≡ nat_lt 1 (count_at (filter on_side rs) i)) [
        | true ↦ λ e. ap (λ (l : List PacketReport). nat_lt 1 (length l)) (sym (contents_of_side rs i e))
        | false ↦ λ e. ap (λ (l : List PacketReport). nat_lt 1 (length l)) (sym (contents_of_other rs i e))
      ] refl)

module _ (side : ℕ → Bool) (rs : List PacketReport) where
  abbrev pub other_side : ℕ → Bool
  other_side d = not (side d)

  -- how many reports a test keeps of the undisputed ones, by sides
  pub kept_split : (p : PacketReport → Bool) → length (filter p (undisputed rs)) ≡ length (filter p (undisputed (filter (on_side side) rs))) + length (filter p (undisputed (filter (on_side other_side) rs)))
  kept_split p =
      length_split (on_side side) (filter p (undisputed rs))
      ∙ (λ i. length (turned side i) + length (turned other_side i))
    where
      turned : (f : ℕ → Bool) → filter (on_side f) (filter p (undisputed rs)) ≡ filter p (undisputed (filter (on_side f) rs))
      turned f = sym (ap (filter p) (undisputed_of_side f rs) ∙ filter_swap p p (on_side f) (undisputed rs) (λ r e. refl))

  pub disputed_split : length (disputed rs) ≡ length (disputed (filter (on_side side) rs)) + length (disputed (filter (on_side other_side) rs))
  disputed_split =
      length_split (λ (i : Identity). side i.domain) (disputed rs)
      ∙ (λ i. length (disputed_of_side side rs i) + length (disputed_of_side other_side rs i))

module _ (side : ℕ → Bool) (xs ys : List PacketReport) (first : IsStrictlySortedBy report_cmp xs) (second : IsStrictlySortedBy report_cmp ys)
    (within : AllByRecursion (λ (r : PacketReport). side r.domain ≡ true) xs) (apart : AllByRecursion (λ (r : PacketReport). side r.domain ≡ false) ys) where
  in_union : (q : PacketReport) → has report_cmp (union report_cmp xs ys) q ≡ (has report_cmp xs q || has report_cmp ys q)
  in_union q = has-in_order report_cmp report_total (xs ++ ys) q ∙ has-append report_cmp report_total xs ys q

  is_within : (q : PacketReport) → has report_cmp xs q ≡ true → side q.domain ≡ true
  is_within = of_member report_cmp report_exact (λ (r : PacketReport). side r.domain ≡ true) xs within

  is_apart : (q : PacketReport) → has report_cmp ys q ≡ true → side q.domain ≡ false
  is_apart = of_member report_cmp report_exact (λ (r : PacketReport). side r.domain ≡ false) ys apart

  rises : (f : PacketReport → Bool) → IsStrictlySortedBy report_cmp (filter f (union report_cmp xs ys))
  rises f = IsStrictlySortedBy-filter report_cmp f (union report_cmp xs ys) (rises_in_order report_cmp report_total (xs ++ ys))

  -- the union's reports on the side are the first set
  pub first_side : filter (on_side side) (union report_cmp xs ys) ≡ xs
  first_side =
      only_one report_cmp report_total report_exact (filter (on_side side) (union report_cmp xs ys)) xs (rises (on_side side)) first (λ q.
      has-filter report_cmp report_exact (on_side side) (union report_cmp xs ys) q
      ∙ ap (λ b. side q.domain && b) (in_union q)
      ∙ left_kept (side q.domain) (has report_cmp xs q) (has report_cmp ys q) (is_within q) (is_apart q))

  -- and those off it the second
  pub second_side : filter (λ (r : PacketReport). not (side r.domain)) (union report_cmp xs ys) ≡ ys
  second_side =
      only_one report_cmp report_total report_exact (filter (λ (r : PacketReport). not (side r.domain)) (union report_cmp xs ys)) ys (rises (λ r. not (side r.domain))) second (λ q.
      has-filter report_cmp report_exact (λ (r : PacketReport). not (side r.domain)) (union report_cmp xs ys) q
      ∙ ap (λ b. not (side q.domain) && b) (in_union q)
      ∙ right_kept (side q.domain) (has report_cmp xs q) (has report_cmp ys q) (is_within q) (is_apart q))
