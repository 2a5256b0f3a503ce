-- The laws that a meter with terms keeps, with their proofs.
use Rattle.std.specs.Prelude.{◌≡◌, ℕ, zero, suc, ◌<◌, ◌≤◌, true, nat_le, List, [], ◌∷◌, Option, Some, None, refl}
use Rattle.std.proofs.Common.{arith, inl, inr}
use Rattle.std.specs.List.{prefix_len}
use Rattle.std.proofs.lemmas.Bool.{cases_lt, lt-ltb, le-ltb, le-leb, lt-leb}
use Rattle.std.proofs.lemmas.Bool.Decides.{nat_tests}
use Rattle.std.proofs.lemmas.List.Sums.{prefix_len_passes}
use Rattle.tca_meters.specs.declared.any_meter.AnyMeter.{AnyMeter}
use Rattle.tca_meters.specs.declared.termed.InTerm.{InTerm}
use Rattle.tca_meters.specs.AnyMeters.{any_rule}
use Rattle.tca_meters.specs.laws.AnyMeterLaws as any
use Rattle.tca_meters.specs.MeterLaws.{IsAdditive, KeepsSizes, NeverBetters, IgnoresPrecolours, RedKeeps}
use Rattle.tca_meters.specs.Termed.{TermedMeter, term, term_at, begun, levels_since, after_tokens, termed_rule, IsWithinSizes, is_aware_in}

passed_later : (t a b : ℕ) → a ≤ b → nat_le t a ≡ true → nat_le t b ≡ true
passed_later t a b h e = grind (arith, nat_tests)

more_start : (later : List (ℕ × AnyMeter)) (a b : ℕ) → a ≤ b → prefix_len (λ t. nat_le t.0 a) later ≤ prefix_len (λ t. nat_le t.0 b) later
more_start [] a b h = omega arith
more_start (t ∷ ts) a b h =
    elim (cases_lt a t.0) [
      | inl past ↦ rw (lt-leb t.0 a past) (omega arith)
      | inr here ↦ let there : t.0 ≤ b = omega arith in rw (le-leb t.0 a here, le-leb t.0 b there) (let rest = more_start ts a b h in omega arith)
    ]

-- a later time has no earlier term
pub term_rises : (m : TermedMeter) (a b : ℕ) → a ≤ b → term_at m a ≤ term_at m b
term_rises m a b h = more_start m.later a b h

-- the term of a time has started by then
pub has_started : (m : TermedMeter) (time n : ℕ) → n ≤ term_at m time → (term m n).0 ≤ time
has_started m time zero h = omega arith
has_started m time (suc n) h =
    let passed = prefix_len_passes (λ (t : ℕ × AnyMeter). nat_le t.0 time) m.later n (0, m.first) (omega arith) in
    grind (arith, nat_tests, passed)

-- an interval in which a term begins, and one in which none does
pub begins : (m : TermedMeter) (a b : ℕ) → term_at m a < term_at m b → begun m a b ≡ Some (term_at m b)
begins m a b h = rw (lt-ltb (term_at m a) (term_at m b) h) refl

pub begins_none : (m : TermedMeter) (a b : ℕ) → term_at m b ≤ term_at m a → begun m a b ≡ None
begins_none m a b h = rw (le-ltb (term_at m a) (term_at m b) h) refl

-- tokens after others in one term
goes_on : (m : TermedMeter) (n b c : ℕ) → (term m n).0 ≤ b → b ≤ c → (any_rule (term m n).1).filled b c (levels_since (term m n) b) ≡ levels_since (term m n) c
goes_on m n b c h k = any.additive (term m n).1 (term m n).0 b c (any_rule (term m n).1).opening h k

pub additive : (m : TermedMeter) → IsAdditive (termed_rule m)
unfolding termed_rule
additive m a b c s h k =
    let first = term_rises m a b h in
    let second = term_rises m b c k in
    elim (cases_lt (term_at m b) (term_at m c)) [
      | inl new ↦ let all : term_at m a < term_at m c = omega arith in rw (begins m b c new, begins m a c all) refl
      | inr old ↦
          elim (cases_lt (term_at m a) (term_at m b)) [
            | inl new ↦
                let all : term_at m a < term_at m c = omega arith in
                let same : term_at m b ≡ term_at m c = omega arith in
                rw (begins_none m b c old, begins m a b new, begins m a c all, ← same) (λ i. record { term = term_at m b; levels = goes_on m (term_at m b) b c (has_started m b (term_at m b) (omega arith)) k i })
            | inr none ↦
                let all : term_at m c ≤ term_at m a = omega arith in
                rw (begins_none m b c old, begins_none m a b none, begins_none m a c all) (λ i. record { term = s.term; levels = any.additive (term m s.term).1 a b c s.levels h k i })
          ]
    ]

within_after : (m : TermedMeter) (from to : ℕ) (s : InTerm) (o : Option ℕ) → IsWithinSizes m s → IsWithinSizes m (after_tokens m from to s o)
within_after m from to s None h = (any.sizes (term m s.term).1).filled from to s.levels h
within_after m from to s (Some n) h = let kept = any.sizes (term m n).1 in kept.filled (term m n).0 to (any_rule (term m n).1).opening kept.opening

pub sizes : (m : TermedMeter) → KeepsSizes (termed_rule m) (IsWithinSizes m)
unfolding termed_rule
sizes m = record {
  opening = (any.sizes m.first).opening;
  filled = λ from to s. within_after m from to s (begun m from to);
  judged = λ s octets pre. (any.sizes (term m s.term).1).judged s.levels octets pre;
}

pub never_betters : (m : TermedMeter) → NeverBetters (termed_rule m) (is_aware_in m)
unfolding termed_rule
never_betters m s octets pre = any.never_betters (term m s.term).1 s.levels octets pre

pub blind : (m : TermedMeter) → IgnoresPrecolours (termed_rule m) (is_aware_in m)
unfolding termed_rule
blind m s octets pre e = let same = any.blind (term m s.term).1 s.levels octets pre e in λ i. ((same i).0, record { term = s.term; levels = (same i).1 })

pub red_keeps : (m : TermedMeter) → RedKeeps (termed_rule m)
unfolding termed_rule
red_keeps m s octets pre red = let same = any.red_keeps (term m s.term).1 s.levels octets pre red in λ i. record { term = s.term; levels = same i }
