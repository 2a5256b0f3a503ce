-- Whose a report is, account by account.
use Rattle.std.proofs.Common.{◌≡◌, ℕ, ◌+◌, ◌<◌, ◌≤◌, Bool, true, false, ◌&&◌, cond, eqb, List, [], ◌∷◌, Some, refl, sym, ap, ◌∙◌, arith}
use Rattle.std.specs.List.{AllByRecursion, list_any, list_all, enumerate_from, position_from}
use Rattle.std.proofs.lemmas.Bool.{eqb-true, ne_eqb, false≢true}
use Rattle.tca_join.proofs.Sets.{all_more}
use Rattle.tca_report.specs.report.Reports.{PacketReport}
use Rattle.tca_accounts.specs.Plans.{AccountPlan, PlannedAccount, owns, pair_of, same_pair, account_of}
use Rattle.tca_accounts.specs.Bills.{is_number}
use Rattle.tca_shards.proofs.Kept.{either}

module _ {K : Type 0} (p : K → Bool) where
  below : (s : ℕ) (xs : List K) (n : ℕ) → n < s → is_number n (position_from p s xs) ≡ false
  below s [] n h = refl
  below s (x ∷ xs) n h =
      elim (p x) as (λ b. is_number n (cond b (Some s) (position_from p (s + 1) xs)) ≡ false) [
        | true ↦ ne_eqb s n (λ e. omega (arith, h, e))
        | false ↦ below (s + 1) xs n (omega (arith, h))
      ]

  numbers_from : (s : ℕ) (xs : List K) → AllByRecursion (λ (x : ℕ × K). s ≤ x.0) (enumerate_from s xs)
  numbers_from s [] = tt
  numbers_from s (x ∷ xs) = (omega arith, all_more (λ (y : ℕ × K). s + 1 ≤ y.0) (λ (y : ℕ × K). s ≤ y.0) (λ y l. omega (arith, l)) (enumerate_from (s + 1) xs) (numbers_from (s + 1) xs))

  -- the test holds of the item whose number is found
  found : (s : ℕ) (xs : List K) → AllByRecursion (λ (x : ℕ × K). is_number x.0 (position_from p s xs) ≡ true → p x.1 ≡ true) (enumerate_from s xs)
  found s [] = tt
  found s (x ∷ xs) = (
    elim (p x) as (λ b. is_number s (cond b (Some s) (position_from p (s + 1) xs)) ≡ true → b ≡ true) [
      | true ↦ λ h. refl
      | false ↦ λ h. absurd (false≢true (sym (below (s + 1) xs s (omega arith)) ∙ h))
    ],
    elim (p x) as (λ b. AllByRecursion (λ (y : ℕ × K). is_number y.0 (cond b (Some s) (position_from p (s + 1) xs)) ≡ true → p y.1 ≡ true) (enumerate_from (s + 1) xs)) [
      | true ↦ all_more (λ (y : ℕ × K). s + 1 ≤ y.0) (λ (y : ℕ × K). is_number y.0 (Some s) ≡ true → p y.1 ≡ true) (λ y l h. absurd (false≢true (sym (ne_eqb s y.0 (λ e. omega (arith, l, e))) ∙ h))) (enumerate_from (s + 1) xs) (numbers_from (s + 1) xs)
      | false ↦ found (s + 1) xs
    ],
  )

all_swap : {A K : Type 0} (P : A → K → Type 0) (xs : List K) → ((a : A) → AllByRecursion (P a) xs) → AllByRecursion (λ x. (a : A) → P a x) xs
all_swap P [] h = tt
all_swap P (x ∷ xs) h = (λ a. (h a).0, all_swap P xs (λ a. (h a).1))

-- an account whose number a report has owns it
pub owners_own : (plan : AccountPlan) → AllByRecursion (λ (x : ℕ × PlannedAccount). (r : PacketReport) → is_number x.0 (account_of plan r) ≡ true → owns x.1 (pair_of r) ≡ true) (enumerate_from 0 plan.accounts)
unfolding account_of
owners_own plan = all_swap (λ (r : PacketReport) (x : ℕ × PlannedAccount). is_number x.0 (account_of plan r) ≡ true → owns x.1 (pair_of r) ≡ true) (enumerate_from 0 plan.accounts) (λ r. found (λ a. owns a (pair_of r)) 0 plan.accounts)

pub all_numbered : {K : Type 0} (P : K → Type 0) (s : ℕ) (xs : List K) → AllByRecursion P xs → AllByRecursion (λ (x : ℕ × K). P x.1) (enumerate_from s xs)
all_numbered P s [] h = tt
all_numbered P s (x ∷ xs) h = (h.0, all_numbered P (s + 1) xs h.1)

two : (a b : Bool) → (a && b) ≡ true → (a ≡ true) × (b ≡ true)
two true true h = (refl, refl)
two true false h = absurd (false≢true h)
two false b h = absurd (false≢true h)

-- a pair that an account owns is on the side that all of its pairs are on
pub owned_side : (side : ℕ → Bool) (pair : ℕ × ℕ) (pairs : List (ℕ × ℕ)) → list_all (λ (p : ℕ × ℕ). side p.0) pairs ≡ true → list_any (same_pair pair) pairs ≡ true → side pair.0 ≡ true
owned_side side pair [] all h = absurd (false≢true h)
owned_side side pair (q ∷ pairs) all h =
    let both = two (side q.0) (list_all (λ (p : ℕ × ℕ). side p.0) pairs) all in
    either (same_pair pair q) (list_any (same_pair pair) pairs)
    (λ t. ap side (eqb-true pair.0 q.0 ((two (eqb pair.0 q.0) (eqb pair.1 q.1) t).0)) ∙ both.0)
    (λ t. owned_side side pair pairs both.1 t) h
