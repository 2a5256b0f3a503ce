-- The settled reports of a set.
use Rattle.std.proofs.Common.{◌≡◌, ℕ, ◌<◌, ◌≤◌, Bool, true, false, not, ◌&&◌, cond, List, [], ◌∷◌, length, filter, refl, sym, ap, ◌∙◌, arith}
use Rattle.std.specs.Prelude.{nat_lt, ◌==◌}
use Rattle.std.specs.List.{AllByRecursion}
use Rattle.std.specs.List.Sorted.{IsStrictlySortedBy}
use Rattle.std.specs.Ordering.{is_eq}
use Rattle.std.specs.Cmp.{tied_itself}
use borrow.Author.Tests.{ltb-true, ltb-false, eqb-true, eq-eqb}
use Rattle.std.proofs.lemmas.List.Kept.{IsStrictlySortedBy-filter}
use Rattle.tca_join.specs.Sets.{has}
use Rattle.tca_report.specs.report.Reports.{PacketReport, report_cmp}
use Rattle.tca_report.specs.report.Identities.{identity_of, identity_cmp, identity_total}
use Rattle.tca_report.proofs.lemmas.report.Order.{report_total, report_exact}
use Rattle.tca_report.specs.declared.report.Identity.{Identity}
use Rattle.tca_log.specs.Disputes.{has_identity, contents, disputed, undisputed, settled_of}
use Rattle.tca_log.specs.inside.Logs.{count_at}
use Rattle.tca_log.proofs.OrderedRows.Each.{members}
use Rattle.tca_log.proofs.Contents.{has-disputed, has-filter}

pub settled_keep : (disputed_identities : List Identity) (r : PacketReport) (rs : List PacketReport) → has identity_cmp disputed_identities (identity_of r) ≡ false → settled_of disputed_identities (r ∷ rs) ≡ r ∷ settled_of disputed_identities rs
unfolding settled_of
settled_keep disputed_identities r rs h = rw h refl

pub settled_skip : (disputed_identities : List Identity) (r : PacketReport) (rs : List PacketReport) → has identity_cmp disputed_identities (identity_of r) ≡ true → settled_of disputed_identities (r ∷ rs) ≡ settled_of disputed_identities rs
unfolding settled_of
settled_skip disputed_identities r rs h = rw h refl

pub settled_none : (disputed_identities : List Identity) → settled_of disputed_identities [] ≡ []
unfolding settled_of
settled_none disputed_identities = refl

filter_among : (p q : PacketReport → Bool) (xs : List PacketReport) → AllByRecursion (λ x. p x ≡ q x) xs → filter p xs ≡ filter q xs
filter_among p q [] h = refl
filter_among p q (x ∷ xs) h = (λ i. cond (h.0 i) (x ∷ filter_among p q xs h.1 i) (filter_among p q xs h.1 i))

none_in : (xs : List PacketReport) (r : PacketReport) → has report_cmp xs r ≡ true → 0 < length xs
unfolding has
none_in [] r h = absurd cc
none_in (x ∷ xs) r h = omega arith

-- a member's identity has members
pub member_counts : (rs : List PacketReport) (r : PacketReport) → has report_cmp rs r ≡ true → 0 < count_at rs (identity_of r)
unfolding contents
member_counts rs r h =
    let own : has_identity (identity_of r) r ≡ true = ap is_eq (tied_itself identity_total (identity_of r)) in
    none_in (filter (has_identity (identity_of r)) rs) r (has-filter report_cmp report_exact (has_identity (identity_of r)) rs r ∙ (λ i. own i && h i))

one_alone : (n : ℕ) → 0 < n → not (nat_lt 1 n) ≡ (n == 1)
one_alone n some = by (nat_lt 1 n) refl
  where
    by : (b : Bool) → nat_lt 1 n ≡ b → not b ≡ (n == 1)
    by true e = let many : 1 < n = ltb-true 1 n e in elim (n == 1) as (λ b. (n == 1) ≡ b → false ≡ b) [ true ↦ λ f. let one : n ≡ 1 = eqb-true n 1 f in absurd (omega arith) | false ↦ λ f. refl ] refl
    by false e = let few : n ≤ 1 = ltb-false 1 n e in let one : n ≡ 1 = omega arith in sym (eq-eqb n 1 one)

alone : (rs : List PacketReport) (r : PacketReport) → has report_cmp rs r ≡ true → not (has identity_cmp (disputed rs) (identity_of r)) ≡ (count_at rs (identity_of r) == 1)
alone rs r h =
    ap not (has-disputed rs (identity_of r)) ∙ one_alone (count_at rs (identity_of r)) (member_counts rs r h)

all_alone : (rs xs : List PacketReport) → AllByRecursion (λ x. has report_cmp rs x ≡ true) xs → AllByRecursion (λ x. not (has identity_cmp (disputed rs) (identity_of x)) ≡ (count_at rs (identity_of x) == 1)) xs
all_alone rs [] h = tt
all_alone rs (x ∷ xs) h = (alone rs x h.0, all_alone rs xs h.1)

-- what is left without the disputed identities is what is undisputed
pub settled_are : (rs : List PacketReport) (disputed_identities : List Identity) → disputed_identities ≡ disputed rs → settled_of disputed_identities rs ≡ undisputed rs
unfolding settled_of undisputed
settled_are rs disputed_identities e =
    ap (λ is. settled_of is rs) e
    ∙ filter_among (λ x. not (has identity_cmp (disputed rs) (identity_of x))) (λ x. count_at rs (identity_of x) == 1) rs (all_alone rs rs (members report_cmp report_total rs))

pub undisputed_rises : (rs : List PacketReport) → IsStrictlySortedBy report_cmp rs → IsStrictlySortedBy report_cmp (undisputed rs)
unfolding undisputed
undisputed_rises rs s = IsStrictlySortedBy-filter report_cmp (λ x. count_at rs (identity_of x) == 1) rs s

filter_few : (p : PacketReport → Bool) (xs : List PacketReport) → length (filter p xs) ≤ length xs
filter_few p [] = omega arith
filter_few p (x ∷ xs) =
    elim (p x) as (λ b. length (cond b (x ∷ filter p xs) (filter p xs)) ≤ length (x ∷ xs)) [
      | true ↦ omega (arith, filter_few p xs)
      | false ↦ omega (arith, filter_few p xs)
    ]

-- no more are undisputed than there are
pub undisputed_few : (rs : List PacketReport) → length (undisputed rs) ≤ length rs
unfolding undisputed
undisputed_few rs = filter_few (λ r. count_at rs (identity_of r) == 1) rs
