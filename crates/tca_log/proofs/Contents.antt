-- How many contents an identity has, and which identities are disputed.
use Rattle.std.proofs.Common.{◌≡◌, ℕ, suc, ◌+◌, ◌<◌, ◌≤◌, Bool, true, false, ◌&&◌, ◌||◌, cond, List, [], ◌∷◌, length, map, filter, refl, sym, ap, ◌∙◌, arith}
use Rattle.std.specs.Prelude.{nat_lt}
use Rattle.std.specs.List.{list_any}
use Rattle.std.specs.List.Sorted.{IsStrictlySortedBy}
use Rattle.std.specs.Ordering.{eq_by_cmp, is_eq}
use Rattle.std.specs.declared.cmp.Ordering.{Ordering}
use Rattle.std.specs.declared.cmp.Ordering.TheVariants.{Less, Equal, Greater}
use borrow.Author.Tests.{ltb-true, ltb-false, lt-ltb}
use Rattle.std.proofs.lemmas.Map.Lookups.{CmpEqualImpliesEq}
use Rattle.std.proofs.lemmas.List.Kept.{IsStrictlySortedBy-filter}
use Rattle.tca_join.specs.Sets.{by_order, has, put, in_order}
use Rattle.tca_join.proofs.Sets.{has-in_order, rises_in_order, only_one}
use Rattle.tca_report.specs.report.Reports.{PacketReport, report_cmp}
use Rattle.tca_report.specs.report.Identities.{identity_of, identity_cmp, identity_total}
use Rattle.tca_report.proofs.lemmas.report.Identities.{identity_exact}
use Rattle.tca_report.specs.declared.report.Identity.{Identity}
use Rattle.tca_log.specs.Disputes.{has_identity, contents, disputed}
use Rattle.tca_log.specs.inside.Logs.{count_at}

-- two tests on numbers that mean the same
pub tests_alike : (a b c d : ℕ) → (a < b → c < d) → (c < d → a < b) → nat_lt a b ≡ nat_lt c d
tests_alike a b c d f g = by (nat_lt a b) (nat_lt c d) refl refl
  where
    by : (x y : Bool) → nat_lt a b ≡ x → nat_lt c d ≡ y → x ≡ y
    by true true p q = refl
    by false false p q = refl
    by true false p q = let low : d ≤ c = ltb-false c d q in let high : c < d = f (ltb-true a b p) in absurd (omega arith)
    by false true p q = let low : b ≤ a = ltb-false a b p in let high : a < b = g (ltb-true c d q) in absurd (omega arith)

module _ {K : Type 0} (R : K → K → Ordering) where
  -- what a test keeps of a set with a new member
  pub length-filter_put : (p : K → Bool) (k : K) (xs : List K) → has R xs k ≡ false → length (filter p (put R k xs)) ≡ length (filter p xs) + cond (p k) 1 0
  unfolding put has
  length-filter_put p k [] h = elim (p k) as (λ b. length (cond b (k ∷ []) []) ≡ 0 + cond b 1 0) [ true ↦ refl | false ↦ refl ]
  length-filter_put p k (x ∷ xs) h =
      elim (R k x) as (λ r. (is_eq r || list_any (eq_by_cmp R k) xs) ≡ false → length (filter p (by_order r (k ∷ x ∷ xs) (x ∷ xs) (x ∷ put R k xs))) ≡ length (filter p (x ∷ xs)) + cond (p k) 1 0) [
        | Less ↦ λ e. elim (p k) as (λ b. length (cond b (k ∷ filter p (x ∷ xs)) (filter p (x ∷ xs))) ≡ length (filter p (x ∷ xs)) + cond b 1 0) [ true ↦ omega arith | false ↦ omega arith ]
        | Equal ↦ λ e. absurd cc
        | Greater ↦ λ e. let rest = length-filter_put p k xs e in elim (p x) as (λ b. length (cond b (x ∷ filter p (put R k xs)) (filter p (put R k xs))) ≡ length (cond b (x ∷ filter p xs) (filter p xs)) + cond (p k) 1 0) [ true ↦ omega (arith, rest) | false ↦ rest ]
      ] h

  filter_other : (p : K → Bool) (x : K) (xs : List K) (q : K) → eq_by_cmp R q x ≡ false → list_any (eq_by_cmp R q) (filter p xs) ≡ (p q && list_any (eq_by_cmp R q) xs)
      → list_any (eq_by_cmp R q) (cond (p x) (x ∷ filter p xs) (filter p xs)) ≡ (p q && list_any (eq_by_cmp R q) xs)
  filter_other p x xs q n rest = elim (p x) as (λ b. list_any (eq_by_cmp R q) (cond b (x ∷ filter p xs) (filter p xs)) ≡ (p q && list_any (eq_by_cmp R q) xs)) [
    | true ↦ ap (λ b. b || list_any (eq_by_cmp R q) (filter p xs)) n ∙ rest
    | false ↦ rest
  ]

  filter_same : (p : K → Bool) (x : K) (xs : List K) (q : K) → eq_by_cmp R q x ≡ true → p x ≡ p q → list_any (eq_by_cmp R q) (filter p xs) ≡ (p q && list_any (eq_by_cmp R q) xs)
      → list_any (eq_by_cmp R q) (cond (p x) (x ∷ filter p xs) (filter p xs)) ≡ (p q && true)
  filter_same p x xs q e same rest =
      ap (λ b. list_any (eq_by_cmp R q) (cond b (x ∷ filter p xs) (filter p xs))) same
      ∙ elim (p q) as (λ b. p q ≡ b → list_any (eq_by_cmp R q) (cond b (x ∷ filter p xs) (filter p xs)) ≡ (b && true)) [
        | true ↦ λ k. ap (λ c. c || list_any (eq_by_cmp R q) (filter p xs)) e
        | false ↦ λ k. rest ∙ ap (λ b. b && list_any (eq_by_cmp R q) xs) k
      ] refl

  pub has-filter : CmpEqualImpliesEq R → (p : K → Bool) (xs : List K) (q : K) → has R (filter p xs) q ≡ (p q && has R xs q)
  unfolding has
  has-filter exact p [] q = elim (p q) as (λ b. false ≡ (b && false)) [ true ↦ refl | false ↦ refl ]
  has-filter exact p (x ∷ xs) q =
      let rest : list_any (eq_by_cmp R q) (filter p xs) ≡ (p q && list_any (eq_by_cmp R q) xs) = has-filter exact p xs q in
      elim (R q x) as (λ r. R q x ≡ r → list_any (eq_by_cmp R q) (cond (p x) (x ∷ filter p xs) (filter p xs)) ≡ (p q && (is_eq r || list_any (eq_by_cmp R q) xs))) [
        | Less ↦ λ e. filter_other p x xs q (ap is_eq e) rest
        | Equal ↦ λ e. filter_same p x xs q (ap is_eq e) (sym (ap p (exact q x e))) rest
        | Greater ↦ λ e. filter_other p x xs q (ap is_eq e) rest
      ] refl

-- a set with a new report
pub count_put : (rs : List PacketReport) (r : PacketReport) (i : Identity) → has report_cmp rs r ≡ false → count_at (put report_cmp r rs) i ≡ count_at rs i + cond (eq_by_cmp identity_cmp i (identity_of r)) 1 0
unfolding contents
count_put rs r i h = length-filter_put report_cmp (has_identity i) r rs h

-- an identity is among those of a set exactly where it has a member
pub any_member : (rs : List PacketReport) (i : Identity) → has identity_cmp (map identity_of rs) i ≡ nat_lt 0 (count_at rs i)
unfolding has contents
any_member [] i = refl
any_member (r ∷ rs) i =
    elim (has_identity i r) as (λ b. (b || list_any (eq_by_cmp identity_cmp i) (map identity_of rs)) ≡ nat_lt 0 (length (cond b (r ∷ filter (has_identity i) rs) (filter (has_identity i) rs)))) [
      | true ↦ sym (lt-ltb 0 (suc (length (filter (has_identity i) rs))) (omega arith))
      | false ↦ any_member rs i
    ]

both_tests : (n : ℕ) → (nat_lt 1 n && nat_lt 0 n) ≡ nat_lt 1 n
both_tests n = by (nat_lt 1 n) refl
  where
    by : (b : Bool) → nat_lt 1 n ≡ b → (b && nat_lt 0 n) ≡ b
    by true e = let more : 1 < n = ltb-true 1 n e in lt-ltb 0 n (omega arith)
    by false e = refl

-- an identity is disputed exactly where two or more members have it
pub has-disputed : (rs : List PacketReport) (i : Identity) → has identity_cmp (disputed rs) i ≡ nat_lt 1 (count_at rs i)
unfolding disputed
has-disputed rs i =
    has-filter identity_cmp identity_exact (λ j. nat_lt 1 (length (contents rs j))) (in_order identity_cmp (map identity_of rs)) i
    ∙ ap (λ b. nat_lt 1 (count_at rs i) && b) (has-in_order identity_cmp identity_total (map identity_of rs) i ∙ any_member rs i)
    ∙ both_tests (count_at rs i)

pub disputed_rises : (rs : List PacketReport) → IsStrictlySortedBy identity_cmp (disputed rs)
unfolding disputed
disputed_rises rs = IsStrictlySortedBy-filter identity_cmp (λ i. nat_lt 1 (length (contents rs i))) (in_order identity_cmp (map identity_of rs)) (rises_in_order identity_cmp identity_total (map identity_of rs))

-- the list of the disputed identities, by its members
pub disputed_is : (rs : List PacketReport) (is : List Identity) → IsStrictlySortedBy identity_cmp is → ((i : Identity) → has identity_cmp is i ≡ nat_lt 1 (count_at rs i)) → is ≡ disputed rs
disputed_is rs is s h = only_one identity_cmp identity_total identity_exact is (disputed rs) s (disputed_rises rs) (λ i. h i ∙ sym (has-disputed rs i))
