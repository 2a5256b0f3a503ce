-- Any number of shards.
use Rattle.std.proofs.Common.{◌≡◌, ℕ, ◌+◌, ◌<◌, ◌≤◌, Bool, true, false, not, ◌||◌, ◌&&◌, eqb, List, [], ◌∷◌, ◌++◌, map, inl, inr, refl, sym, ap, ◌∙◌, arith}
use Rattle.std.specs.Prelude.{nat_lt}
use Rattle.std.specs.List.{AllByRecursion, list_all, enumerate_from}
use Rattle.std.specs.List.Sorted.{IsStrictlySortedBy}
use Rattle.std.proofs.lemmas.Bool.{false≢true, eqb-true, eq-eqb, cases_lt}
use borrow.Author.Tests.{ltb-true, lt-ltb}
use Rattle.tca_join.specs.Sets.{in_order}
use Rattle.tca_join.specs.SetLaws.{union}
use Rattle.tca_join.proofs.Sets.{all_more, all_put, rises_in_order}
use Rattle.tca_report.specs.report.Reports.{PacketReport, report_cmp}
use Rattle.tca_report.proofs.lemmas.report.Order.{report_total}
use Rattle.tca_accounts.specs.Plans.{AccountPlan, PlannedAccount}
use Rattle.tca_accounts.specs.Bills.{bill_of}
use Rattle.tca_accounts.specs.declared.bill.Bill.{Bill}
use Rattle.tca_shards.specs.Shards.{is_one_sided, has_domain, united, summed, HasOneHome, AllShardsAddUp}
use Rattle.tca_shards.proofs.Kept.{either}
use Rattle.tca_shards.proofs.Shards.{shards_add_up}

pub or_left : (a b : Bool) → a ≡ true → (a || b) ≡ true
or_left true b h = refl
or_left false b h = absurd (false≢true h)

pub or_right : (a b : Bool) → b ≡ true → (a || b) ≡ true
or_right true b h = refl
or_right false b h = h

pub both_true : (a b : Bool) → a ≡ true → b ≡ true → (a && b) ≡ true
both_true true b h k = k
both_true false b h k = absurd (false≢true h)

pub parts_true : (a b : Bool) → (a && b) ≡ true → (a ≡ true) × (b ≡ true)
parts_true true b h = (refl, h)
parts_true false b h = absurd (false≢true h)

all_tests : {K : Type 0} (g : K → Bool) (xs : List K) → AllByRecursion (λ x. g x ≡ true) xs → list_all g xs ≡ true
all_tests g [] h = refl
all_tests g (x ∷ xs) h = both_true (g x) (list_all g xs) h.0 (all_tests g xs h.1)

pub own_domains : (rs : List PacketReport) → AllByRecursion (λ (r : PacketReport). has_domain rs r.domain ≡ true) rs
own_domains [] = tt
own_domains (r ∷ rs) = (
  or_left (eqb r.domain r.domain) (has_domain rs r.domain) (eq-eqb r.domain r.domain refl),
  all_more (λ (q : PacketReport). has_domain rs q.domain ≡ true) (λ (q : PacketReport). has_domain (r ∷ rs) q.domain ≡ true) (λ q h. or_right (eqb r.domain q.domain) (has_domain rs q.domain) h) rs (own_domains rs),
)

-- a domain of the second set isn't one of the first
pub not_first : (xs ys : List PacketReport) → AllByRecursion (λ (r : PacketReport). has_domain xs r.domain ≡ false) ys → (d : ℕ) → has_domain ys d ≡ true → not (has_domain xs d) ≡ true
not_first xs [] h d k = absurd (false≢true k)
not_first xs (y ∷ ys) h d k =
    either (eqb y.domain d) (has_domain ys d)
    (λ e. ap not (ap (has_domain xs) (sym (eqb-true y.domain d e)) ∙ h.0))
    (λ e. not_first xs ys h.1 d e) k

pub all_append : {K : Type 0} (P : K → Type 0) (xs ys : List K) → AllByRecursion P xs → AllByRecursion P ys → AllByRecursion P (xs ++ ys)
all_append P [] ys h k = k
all_append P (x ∷ xs) ys h k = (h.0, all_append P xs ys h.1 k)

pub all_in_order : (P : PacketReport → Type 0) (rs : List PacketReport) → AllByRecursion P rs → AllByRecursion P (in_order report_cmp rs)
unfolding in_order
all_in_order P [] h = tt
all_in_order P (r ∷ rs) h = all_put report_cmp report_total P r (in_order report_cmp rs) h.0 (all_in_order P rs h.1)

not_below : (m n : ℕ) → n ≤ m → nat_lt m n ≡ false
not_below m n h = by (nat_lt m n) refl
  where
    by : (b : Bool) → nat_lt m n ≡ b → b ≡ false
    by true e = let l : m < n = ltb-true m n e in absurd (omega arith)
    by false e = refl

module _ (plan : AccountPlan) (home : ℕ → ℕ) (accounts : AllByRecursion (HasOneHome home) plan.accounts) where
  one_sided : (k : ℕ) (a : PlannedAccount) → HasOneHome home a → is_one_sided (λ d. nat_lt (home d) k) a ≡ true
  one_sided k a h =
      elim (cases_lt h.0 k) [
        | inl below ↦ or_left (list_all (λ (p : ℕ × ℕ). nat_lt (home p.0) k) a.pairs) (list_all (λ (p : ℕ × ℕ). not (nat_lt (home p.0) k)) a.pairs)
            (all_tests (λ (p : ℕ × ℕ). nat_lt (home p.0) k) a.pairs (all_more (λ (p : ℕ × ℕ). home p.0 ≡ h.0) (λ (p : ℕ × ℕ). nat_lt (home p.0) k ≡ true) (λ p e. lt-ltb (home p.0) k (omega (arith, e, below))) a.pairs h.1))
        | inr above ↦ or_right (list_all (λ (p : ℕ × ℕ). nat_lt (home p.0) k) a.pairs) (list_all (λ (p : ℕ × ℕ). not (nat_lt (home p.0) k)) a.pairs)
            (all_tests (λ (p : ℕ × ℕ). not (nat_lt (home p.0) k)) a.pairs (all_more (λ (p : ℕ × ℕ). home p.0 ≡ h.0) (λ (p : ℕ × ℕ). not (nat_lt (home p.0) k) ≡ true) (λ p e. ap not (not_below (home p.0) k (omega (arith, e, above)))) a.pairs h.1))
      ]

  one_by_one : (k : ℕ) (rs : List PacketReport) (sets : List (List PacketReport)) → IsStrictlySortedBy report_cmp rs → AllByRecursion (λ (r : PacketReport). home r.domain < k) rs
      → AllByRecursion (λ (s : List PacketReport). IsStrictlySortedBy report_cmp s) sets
      → AllByRecursion (λ (s : ℕ × List PacketReport). AllByRecursion (λ (r : PacketReport). home r.domain ≡ s.0) s.1) (enumerate_from k sets)
      → bill_of plan (united rs sets) ≡ summed (bill_of plan rs) (map (bill_of plan) sets)
  unfolding united summed
  one_by_one k rs [] sorted low rise at = refl
  one_by_one k rs (s ∷ sets) sorted low rise at =
      one_by_one (k + 1) (union report_cmp rs s) sets (rises_in_order report_cmp report_total (rs ++ s))
      (all_in_order (λ (r : PacketReport). home r.domain < k + 1) (rs ++ s) (all_append (λ (r : PacketReport). home r.domain < k + 1) rs s
      (all_more (λ (r : PacketReport). home r.domain < k) (λ (r : PacketReport). home r.domain < k + 1) (λ r l. omega (arith, l)) rs low)
      (all_more (λ (r : PacketReport). home r.domain ≡ k) (λ (r : PacketReport). home r.domain < k + 1) (λ r e. omega (arith, e)) s at.0)))
      rise.1 at.1
      ∙ ap (λ (b : Bill). summed b (map (bill_of plan) sets)) (shards_add_up plan (λ d. nat_lt (home d) k) rs s (record {
        first = sorted;
        second = rise.0;
        within = all_more (λ (r : PacketReport). home r.domain < k) (λ (r : PacketReport). nat_lt (home r.domain) k ≡ true) (λ r l. lt-ltb (home r.domain) k l) rs low;
        apart = all_more (λ (r : PacketReport). home r.domain ≡ k) (λ (r : PacketReport). nat_lt (home r.domain) k ≡ false) (λ r e. not_below (home r.domain) k (omega (arith, e))) s at.0;
        accounts = all_more (HasOneHome home) (λ (a : PlannedAccount). is_one_sided (λ d. nat_lt (home d) k) a ≡ true) (one_sided k) plan.accounts accounts;
      }))

pub all_shards_add_up : AllShardsAddUp
all_shards_add_up plan home rs sets s =
    one_by_one plan home s.accounts 1 rs sets s.rise.0
    (all_more (λ (r : PacketReport). home r.domain ≡ 0) (λ (r : PacketReport). home r.domain < 1) (λ r e. omega (arith, e)) rs s.at_home.0)
    s.rise.1 s.at_home.1
