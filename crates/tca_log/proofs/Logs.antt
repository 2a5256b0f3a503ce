-- A log that gets reports.
use Rattle.std.proofs.Common.{◌≡◌, ℕ, ◌+◌, ◌<◌, ◌≤◌, Bool, true, false, ◌&&◌, ◌||◌, cond, List, [], ◌∷◌, length, filter, refl, sym, ap, subst, ◌∙◌, arith}
use Rattle.std.specs.Prelude.{nat_lt, Some, None, is_some}
use Rattle.std.specs.List.{AllByRecursion}
use Rattle.std.specs.List.Sorted.{IsStrictlySortedBy}
use Rattle.std.specs.Ordering.{eq_by_cmp, is_eq}
use Rattle.std.specs.Cmp.{IsTotalOrder, tied_itself, Equal-is}
use borrow.Author.Tests.{ltb-true, ltb-false, lt-ltb}
use Rattle.std.proofs.lemmas.Cmp.{on_total}
use Rattle.tca_join.specs.Sets.{has, put}
use Rattle.tca_join.proofs.Sets.{has-put, rises_put, all_put, all_more}
use Rattle.tca_report.specs.report.Reports.{PacketReport, report_cmp}
use Rattle.tca_report.specs.report.Identities.{identity_of, identity_cmp, identity_total}
use Rattle.tca_report.proofs.lemmas.report.Order.{report_total, report_exact}
use Rattle.tca_report.proofs.lemmas.report.Identities.{identity_exact}
use Rattle.tca_report.specs.declared.report.Identity.{Identity}
use Rattle.tca_log.specs.declared.answer.Added.TheVariants.{Fresh, Repeat, NewDispute, MoreDispute}
use Rattle.tca_log.specs.declared.by_identity.ByIdentity.{ByIdentity}
use Rattle.tca_log.specs.Rows.Ordered.{tied}
use Rattle.tca_log.specs.Disputes.{has_identity, contents, added, added_to}
use Rattle.tca_log.specs.inside.Logs.{index_cmp, indexed, count_at, IsKept, IsLog, answered, index_after, disputed_after}
use Rattle.tca_log.proofs.OrderedRows.Positions.{length_put}
use Rattle.tca_log.proofs.OrderedRows.Search.{has_tied, put_there, tied_is, all_tied}
use Rattle.tca_log.proofs.Contents.{tests_alike, count_put, has-disputed, disputed_rises, disputed_is, has-filter}

pub index_total : IsTotalOrder index_cmp
index_total = on_total (λ b. identity_of b.report) identity_total

pub nothing : IsLog [] [] []
unfolding IsStrictlySortedBy has contents
nothing = record {
  rises = tt;
  limit = omega arith;
  known = λ r. refl;
  among = tt;
  disputed_are = disputed_is [] [] tt (λ i. refl);
  fewer = omega arith;
  fewer_disputed = omega arith;
}

pub nothing_kept : IsKept [] None []
nothing_kept = record {
  rises = nothing.rises;
  limit = nothing.limit;
  disputed_are = nothing.disputed_are;
  fewer_disputed = nothing.fewer_disputed;
  indexed = tt;
}

-- a log that keeps its index
pub kept : {rs : List PacketReport} {index : List ByIdentity} {disputed_identities : List Identity} → IsLog rs index disputed_identities → IsKept rs (Some index) disputed_identities
kept log = record {
  rises = log.rises;
  limit = log.limit;
  disputed_are = log.disputed_are;
  fewer_disputed = log.fewer_disputed;
  indexed = log;
}

-- a report that is there
pub repeat : (rs : List PacketReport) (r : PacketReport) → has report_cmp rs r ≡ true → Repeat ≡ added rs r
unfolding added
repeat rs r h = sym (ap (λ b. cond b Repeat (added_to (contents rs (identity_of r)))) h)

pub repeat_put : (rs : List PacketReport) (r : PacketReport) → IsStrictlySortedBy report_cmp rs → has report_cmp rs r ≡ true → rs ≡ put report_cmp r rs
repeat_put rs r s h = sym (put_there report_cmp report_total r rs s h)

-- members of a set are members of one with more
more_among : (rs : List PacketReport) (r : PacketReport) (index : List ByIdentity) → AllByRecursion (λ b. has report_cmp rs b.report ≡ true) index → AllByRecursion (λ b. has report_cmp (put report_cmp r rs) b.report ≡ true) index
more_among rs r index h = all_more (λ b. has report_cmp rs b.report ≡ true) (λ b. has report_cmp (put report_cmp r rs) b.report ≡ true) (λ b e. has-put report_cmp report_total r rs b.report ∙ ap (λ c. eq_by_cmp report_cmp b.report r || c) e ∙ or_true (eq_by_cmp report_cmp b.report r)) index h
  where
    or_true : (b : Bool) → (b || true) ≡ true
    or_true true = refl
    or_true false = refl

new_itself : (rs : List PacketReport) (r : PacketReport) → has report_cmp (put report_cmp r rs) r ≡ true
new_itself rs r = has-put report_cmp report_total r rs r ∙ ap (λ o. is_eq o || has report_cmp rs r) (tied_itself report_total r)

-- an identity that ties has as many members
pub same_count : (rs : List PacketReport) (i j : Identity) → eq_by_cmp identity_cmp i j ≡ true → count_at rs i ≡ count_at rs j
same_count rs i j e = ap (count_at rs) (identity_exact i j ((Equal-is (identity_cmp i j)).0 e))

-- tests of a count, with one more member or without
pub one_more : (b : Bool) (n : ℕ) → (b || nat_lt 0 n) ≡ nat_lt 0 (n + cond b 1 0)
one_more true n = sym (lt-ltb 0 (n + 1) (omega arith))
one_more false n = tests_alike 0 n 0 (n + 0) (λ h. omega arith) (λ h. omega arith)

pub one_more_there : (b : Bool) (n : ℕ) → (b ≡ true → 0 < n) → nat_lt 0 n ≡ nat_lt 0 (n + cond b 1 0)
one_more_there true n h = tests_alike 0 n 0 (n + 1) (λ g. omega arith) (λ g. h refl)
one_more_there false n h = tests_alike 0 n 0 (n + 0) (λ g. omega arith) (λ g. omega arith)

pub first_one : (b : Bool) (n : ℕ) → (b ≡ true → n ≡ 0) → nat_lt 1 n ≡ nat_lt 1 (n + cond b 1 0)
first_one true n h = let none : n ≡ 0 = h refl in tests_alike 1 n 1 (n + 1) (λ g. omega arith) (λ g. omega arith)
first_one false n h = tests_alike 1 n 1 (n + 0) (λ g. omega arith) (λ g. omega arith)

pub second_one : (b : Bool) (n : ℕ) → (b ≡ true → 0 < n) → (b || nat_lt 1 n) ≡ nat_lt 1 (n + cond b 1 0)
second_one true n h = let some : 0 < n = h refl in sym (lt-ltb 1 (n + 1) (omega arith))
second_one false n h = tests_alike 1 n 1 (n + 0) (λ g. omega arith) (λ g. omega arith)

pub further_one : (b : Bool) (n : ℕ) → (b ≡ true → 1 < n) → nat_lt 1 n ≡ nat_lt 1 (n + cond b 1 0)
further_one true n h = let many : 1 < n = h refl in tests_alike 1 n 1 (n + 1) (λ g. omega arith) (λ g. many)
further_one false n h = tests_alike 1 n 1 (n + 0) (λ g. omega arith) (λ g. omega arith)

module _ (rs : List PacketReport) (index : List ByIdentity) (disputed_identities : List Identity) (r : PacketReport) (log : IsLog rs index disputed_identities) (new : has report_cmp rs r ≡ false) (few : length rs < 4194304) where
  more : (i : Identity) → count_at (put report_cmp r rs) i ≡ count_at rs i + cond (eq_by_cmp identity_cmp i (identity_of r)) 1 0
  more i = count_put rs r i new

  longer : length (put report_cmp r rs) ≡ length rs + 1
  longer = length_put report_cmp report_total r rs new

  is_disputed_by : (i : Identity) → has identity_cmp disputed_identities i ≡ nat_lt 1 (count_at rs i)
  is_disputed_by i = ap (λ is. has identity_cmp is i) log.disputed_are ∙ has-disputed rs i

  disputed_all_rise : IsStrictlySortedBy identity_cmp disputed_identities
  disputed_all_rise = subst (IsStrictlySortedBy identity_cmp) (sym log.disputed_are) (disputed_rises rs)

  -- the first report of an identity
  module _ (absent : has index_cmp index (indexed r) ≡ false) where
    none : count_at rs (identity_of r) ≡ 0
    none = let least : count_at rs (identity_of r) ≤ 0 = ltb-false 0 (count_at rs (identity_of r)) (sym (log.known r) ∙ absent) in omega arith

    none_at : (i : Identity) → eq_by_cmp identity_cmp i (identity_of r) ≡ true → count_at rs i ≡ 0
    none_at i e = same_count rs i (identity_of r) e ∙ none

    pub fresh_log : IsLog (put report_cmp r rs) (put index_cmp (indexed r) index) disputed_identities
    fresh_log = record {
      rises = rises_put report_cmp report_total r rs log.rises;
      limit = omega (arith, longer);
      known = λ q. has-put index_cmp index_total (indexed r) index (indexed q) ∙ ap (λ b. eq_by_cmp identity_cmp (identity_of q) (identity_of r) || b) (log.known q) ∙ one_more (eq_by_cmp identity_cmp (identity_of q) (identity_of r)) (count_at rs (identity_of q)) ∙ ap (nat_lt 0) (sym (more (identity_of q)));
      among = all_put index_cmp index_total (λ b. has report_cmp (put report_cmp r rs) b.report ≡ true) (indexed r) index (new_itself rs r) (more_among rs r index log.among);
      disputed_are = disputed_is (put report_cmp r rs) disputed_identities disputed_all_rise (λ i. is_disputed_by i ∙ first_one (eq_by_cmp identity_cmp i (identity_of r)) (count_at rs i) (none_at i) ∙ ap (nat_lt 1) (sym (more i)));
      fewer = omega (arith, longer, length_put index_cmp index_total (indexed r) index absent, log.fewer);
      fewer_disputed = omega (arith, longer, log.fewer_disputed);
    }

  -- a further one
  module _ (present : has index_cmp index (indexed r) ≡ true) where
    some : 0 < count_at rs (identity_of r)
    some = ltb-true 0 (count_at rs (identity_of r)) (sym (log.known r) ∙ present)

    some_at : (i : Identity) → eq_by_cmp identity_cmp i (identity_of r) ≡ true → 0 < count_at rs i
    some_at i e = subst (λ n. 0 < n) (sym (same_count rs i (identity_of r) e)) some

    still_known : (q : PacketReport) → has index_cmp index (indexed q) ≡ nat_lt 0 (count_at (put report_cmp r rs) (identity_of q))
    still_known q = log.known q ∙ one_more_there (eq_by_cmp identity_cmp (identity_of q) (identity_of r)) (count_at rs (identity_of q)) (some_at (identity_of q)) ∙ ap (nat_lt 0) (sym (more (identity_of q)))

    pub second_log : has identity_cmp disputed_identities (identity_of r) ≡ false → IsLog (put report_cmp r rs) index (put identity_cmp (identity_of r) disputed_identities)
    second_log single = record {
      rises = rises_put report_cmp report_total r rs log.rises;
      limit = omega (arith, longer);
      known = still_known;
      among = more_among rs r index log.among;
      disputed_are = disputed_is (put report_cmp r rs) (put identity_cmp (identity_of r) disputed_identities) (rises_put identity_cmp identity_total (identity_of r) disputed_identities disputed_all_rise) (λ i. has-put identity_cmp identity_total (identity_of r) disputed_identities i ∙ ap (λ b. eq_by_cmp identity_cmp i (identity_of r) || b) (is_disputed_by i) ∙ second_one (eq_by_cmp identity_cmp i (identity_of r)) (count_at rs i) (some_at i) ∙ ap (nat_lt 1) (sym (more i)));
      fewer = omega (arith, longer, log.fewer);
      fewer_disputed = omega (arith, longer, length_put identity_cmp identity_total (identity_of r) disputed_identities single, log.fewer_disputed);
    }

    pub further_log : has identity_cmp disputed_identities (identity_of r) ≡ true → IsLog (put report_cmp r rs) index disputed_identities
    further_log double = record {
      rises = rises_put report_cmp report_total r rs log.rises;
      limit = omega (arith, longer);
      known = still_known;
      among = more_among rs r index log.among;
      disputed_are = disputed_is (put report_cmp r rs) disputed_identities disputed_all_rise (λ i. is_disputed_by i ∙ further_one (eq_by_cmp identity_cmp i (identity_of r)) (count_at rs i) (λ e. subst (λ n. 1 < n) (sym (same_count rs i (identity_of r) e)) many) ∙ ap (nat_lt 1) (sym (more i)));
      fewer = omega (arith, longer, log.fewer);
      fewer_disputed = omega (arith, longer, log.fewer_disputed);
    }
      where
        many : 1 < count_at rs (identity_of r)
        many = ltb-true 1 (count_at rs (identity_of r)) (sym (is_disputed_by (identity_of r)) ∙ double)

  -- the three cases together
  pub next_log : IsLog (put report_cmp r rs) (index_after (tied index_cmp (indexed r) index) r index) (disputed_after (tied index_cmp (indexed r) index) (has identity_cmp disputed_identities (identity_of r)) r disputed_identities)
  next_log =
      elim (tied index_cmp (indexed r) index) as (λ t. has index_cmp index (indexed r) ≡ is_some t → IsLog (put report_cmp r rs) (index_after t r index) (disputed_after t (has identity_cmp disputed_identities (identity_of r)) r disputed_identities)) [
        | None ↦ λ e. fresh_log e
        | Some first ↦ λ e. elim (has identity_cmp disputed_identities (identity_of r)) as (λ b. has identity_cmp disputed_identities (identity_of r) ≡ b → IsLog (put report_cmp r rs) index (disputed_after (Some first) b r disputed_identities)) [ true ↦ λ d. further_log e d | false ↦ λ d. second_log e d ] refl
      ] (has_tied index_cmp index_total (indexed r) index)

-- the answer, by how many members the identity has
answer_by : (xs : List PacketReport) → length xs ≡ 0 → Fresh ≡ added_to xs
answer_by [] h = refl
answer_by (x ∷ xs) h = absurd (omega arith)

answer_many : (xs : List PacketReport) → 1 < length xs → MoreDispute ≡ added_to xs
answer_many [] h = absurd (omega arith)
answer_many (x ∷ []) h = absurd (omega arith)
answer_many (x ∷ y ∷ xs) h = refl

answer_one : (xs : List PacketReport) (q : PacketReport) → length xs ≤ 1 → has report_cmp xs q ≡ true → NewDispute q ≡ added_to xs
unfolding has
answer_one [] q h m = absurd cc
answer_one (x ∷ []) q h m = ap NewDispute (report_exact q x ((Equal-is (report_cmp q x)).0 (or_none (eq_by_cmp report_cmp q x) ∙ m)))
  where
    or_none : (b : Bool) → b ≡ (b || false)
    or_none true = refl
    or_none false = refl
answer_one (x ∷ y ∷ xs) q h m = absurd (omega arith)

module _ (rs : List PacketReport) (index : List ByIdentity) (disputed_identities : List Identity) (r : PacketReport) (log : IsLog rs index disputed_identities) (new : has report_cmp rs r ≡ false) (few : length rs < 4194304) where
  opened : added_to (contents rs (identity_of r)) ≡ added rs r
  unfolding added
  opened = sym (ap (λ b. cond b Repeat (added_to (contents rs (identity_of r)))) new)

  first_answer : has index_cmp index (indexed r) ≡ false → Fresh ≡ added_to (contents rs (identity_of r))
  first_answer absent = answer_by (contents rs (identity_of r)) (none rs index disputed_identities r log new few absent)

  further_answer : has identity_cmp disputed_identities (identity_of r) ≡ true → MoreDispute ≡ added_to (contents rs (identity_of r))
  further_answer double = answer_many (contents rs (identity_of r)) (ltb-true 1 (count_at rs (identity_of r)) (sym (is_disputed_by rs index disputed_identities r log new few (identity_of r)) ∙ double))

  second_answer : (first : ByIdentity) → tied index_cmp (indexed r) index ≡ Some first → has identity_cmp disputed_identities (identity_of r) ≡ false → NewDispute first.report ≡ added_to (contents rs (identity_of r))
  unfolding contents
  second_answer first e single =
      let there : has report_cmp rs first.report ≡ true = all_tied index_cmp index_total (λ b. has report_cmp rs b.report ≡ true) (indexed r) index first log.among e in
      let ties : has_identity (identity_of r) first.report ≡ true = tied_is index_cmp index_total (indexed r) index first e in
      answer_one (filter (has_identity (identity_of r)) rs) first.report (ltb-false 1 (count_at rs (identity_of r)) (sym (is_disputed_by rs index disputed_identities r log new few (identity_of r)) ∙ single))
      (has-filter report_cmp report_exact (has_identity (identity_of r)) rs first.report ∙ (λ i. ties i && there i))

  pub next_answer : answered (tied index_cmp (indexed r) index) (has identity_cmp disputed_identities (identity_of r)) ≡ added rs r
  next_answer =
      elim (tied index_cmp (indexed r) index) as (λ t. tied index_cmp (indexed r) index ≡ t → has index_cmp index (indexed r) ≡ is_some t → answered t (has identity_cmp disputed_identities (identity_of r)) ≡ added_to (contents rs (identity_of r))) [
        | None ↦ λ e h. first_answer h
        | Some first ↦ λ e h. elim (has identity_cmp disputed_identities (identity_of r)) as (λ b. has identity_cmp disputed_identities (identity_of r) ≡ b → answered (Some first) b ≡ added_to (contents rs (identity_of r))) [ true ↦ λ d. further_answer d | false ↦ λ d. second_answer first e d ] refl
      ] refl (has_tied index_cmp index_total (indexed r) index)
      ∙ opened
