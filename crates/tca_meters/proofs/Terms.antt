-- Terms that ascend, and the term of a time.
use Rattle.std.proofs.Common.{◌≡◌, ℕ, zero, suc, ◌<◌, ◌≤◌, true, leb, List, [], ◌∷◌, length, get_or, refl, arith, inl, inr}
use Rattle.std.specs.List.{prefix_len}
use Rattle.std.proofs.lemmas.Bool.{cases_lt, lt-ltb, le-leb}
use Rattle.std.proofs.lemmas.Bool.Decides.{nat_tests}
use Rattle.std.proofs.lemmas.List.Sums.{prefix_len-le-length}
use Rattle.tca_buckets.specs.Tokens.{time_end}
use Rattle.tca_meters.specs.declared.any_meter.AnyMeter.{AnyMeter}
use Rattle.tca_meters.specs.Termed.{IsTermed, TermedMeter, ascend_from, term, term_at}
use Rattle.tca_meters.specs.laws.TermedLaws.{has_started}
use Rattle.tca_meters.specs.TermsApart.{IsTermOf}

-- the first of some terms that ascend, and the others
pub record Ascends (last : ℕ) (t : ℕ × AnyMeter) (ts : List (ℕ × AnyMeter)) : Type 0 where
  pub above : last < t.0
  pub below : t.0 < time_end
  pub others : ascend_from t.0 ts ≡ true

pub ascends : (last : ℕ) (t : ℕ × AnyMeter) (ts : List (ℕ × AnyMeter)) → ascend_from last (t ∷ ts) ≡ true → Ascends last t ts
ascends last t ts e = record { above = grind (arith, nat_tests, e); below = grind (arith, nat_tests, e); others = grind (arith, nat_tests, e) }

pub ascends_all : (last : ℕ) (t : ℕ × AnyMeter) (ts : List (ℕ × AnyMeter)) → last < t.0 → t.0 < time_end → ascend_from t.0 ts ≡ true → ascend_from last (t ∷ ts) ≡ true
ascends_all last t ts above below others = rw (lt-ltb last t.0 above, lt-ltb t.0 time_end below, others) refl

-- they all start after the time before them
pub start_above : (last : ℕ) (later : List (ℕ × AnyMeter)) (n : ℕ) (d : ℕ × AnyMeter) → ascend_from last later ≡ true → n < length later → last < (get_or later n d).0
start_above last [] n d e h = absurd (omega arith)
start_above last (t ∷ ts) zero d e h = (ascends last t ts e).above
start_above last (t ∷ ts) (suc n) d e h =
    let first = ascends last t ts e in
    let above = first.above in
    let rest = start_above t.0 ts n d first.others (omega arith) in
    omega arith

-- those from the first on that hasn't started haven't either
start_past : (last : ℕ) (later : List (ℕ × AnyMeter)) (time n : ℕ) (d : ℕ × AnyMeter) → ascend_from last later ≡ true → prefix_len (λ t. leb t.0 time) later ≤ n → n < length later → time < (get_or later n d).0
start_past last [] time n d e k h = absurd (omega arith)
start_past last (t ∷ ts) time zero d e k h =
    elim (cases_lt time t.0) [
      | inl past ↦ past
      | inr here ↦ absurd (let none = rw (le-leb t.0 time here) at k in omega arith)
    ]
start_past last (t ∷ ts) time (suc n) d e k h =
    let first = ascends last t ts e in
    elim (cases_lt time t.0) [
      | inl past ↦ let rest = start_above t.0 ts n d first.others (omega arith) in omega arith
      | inr here ↦ let more = rw (le-leb t.0 time here) at k in start_past t.0 ts time n d first.others (omega arith) (omega arith)
    ]

-- a term that hasn't started by a time starts after it
pub starts_later : (m : TermedMeter) (time n : ℕ) → IsTermed m → term_at m time < n → n ≤ length m.later → time < (term m n).0
starts_later m time zero h k l = absurd (omega arith)
starts_later m time (suc n) h k l = start_past 0 m.later time n (0, m.first) h.ascend (omega arith) (omega arith)

-- each term starts after those before it
pub terms_rise : (m : TermedMeter) (n : ℕ) → IsTermed m → n < length m.later → (term m n).0 < (term m (suc n)).0
terms_rise m n h l = rise 0 m.first m.later n (0, m.first) h.ascend l
  where
    rise : (last : ℕ) (meter : AnyMeter) (later : List (ℕ × AnyMeter)) (n : ℕ) (d : ℕ × AnyMeter) → ascend_from last later ≡ true → n < length later → (get_or ((last, meter) ∷ later) n d).0 < (get_or later n d).0
    rise last meter [] n d e l = absurd (omega arith)
    rise last meter (t ∷ ts) zero d e l = (ascends last t ts e).above
    rise last meter (t ∷ ts) (suc n) d e l = rise t.0 t.1 ts n d (ascends last t ts e).others (omega arith)

pub have_times : (m : TermedMeter) → IsTermed m → (time : ℕ) → IsTermOf m time (term_at m time)
have_times m h time = record {
  inside = prefix_len-le-length (λ (t : ℕ × AnyMeter). leb t.0 time) m.later;
  started = has_started m time (term_at m time) (omega arith);
  last = λ k above inside. starts_later m time k h above inside;
}

-- at time 0 only the first meter's term has started
pub first_at_zero : (m : TermedMeter) → IsTermed m → term_at m 0 ≡ 0
first_at_zero m h =
    elim (cases_lt 0 (term_at m 0)) [
      | inl some ↦
          let inside = prefix_len-le-length (λ (t : ℕ × AnyMeter). leb t.0 0) m.later in
          let by = has_started m 0 (suc zero) (omega arith) in
          let above = start_above 0 m.later zero (0, m.first) h.ascend (omega arith) in
          absurd (omega (arith, by, above))
      | inr none ↦ omega arith
    ]
