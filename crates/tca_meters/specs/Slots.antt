-- How the terms of a meter are kept, in so many slots, and how a term is entered. No public contract cites this: it serves the type and
-- private functions alone.
use Rattle.std.specs.Prelude.{◌≡◌, ℕ, ◌-◌, ◌≤◌, List, ◌++◌, length, take, drop, replicate, Option, Some, None}
use Rattle.std.proofs.Common.{arith, take-append-drop, length-take-le}
use Rattle.tca_meters.specs.declared.any_meter.AnyMeter.{AnyMeter}
use Rattle.tca_meters.specs.declared.termed.InTerm.{InTerm}
use Rattle.tca_meters.specs.AnyMeters.{any_rule}
use Rattle.tca_meters.specs.Termed.{TermedMeter, IsTermed, most_terms, term}

-- the meter that so many of the slots make
abbrev pub seen : AnyMeter → ℕ → List (ℕ × AnyMeter) → TermedMeter
seen first count slots = record { first = first; later = take count slots }

-- the first meter, in the slots that some terms leave
abbrev pub left_by : AnyMeter → List (ℕ × AnyMeter) → List (ℕ × AnyMeter)
left_by first terms = drop (length terms) (replicate most_terms (0, first))

-- the terms in 8 slots, and the first meter in those that are left
abbrev pub slots_of : TermedMeter → List (ℕ × AnyMeter)
slots_of m = m.later ++ replicate (most_terms - length m.later) (0, m.first)

-- the slots of a meter
pub record AreSlots (first : AnyMeter) (count : ℕ) (slots : List (ℕ × AnyMeter)) : Type 0 where
  pub inside : count ≤ most_terms
  pub many : length slots ≡ most_terms
  pub left : drop count slots ≡ replicate (most_terms - count) (0, first)
  pub termed : IsTermed (seen first count slots)

-- a meter's slots are again those that it was seen in
pub slots_again : (first : AnyMeter) (count : ℕ) (slots : List (ℕ × AnyMeter)) → AreSlots first count slots → (length (take count slots) ≡ count) × (slots_of (seen first count slots) ≡ slots)
slots_again first count slots h =
    let same = length-take-le count slots (omega (arith, h.inside, h.many)) in
    (same, rw (same, ← h.left) (take-append-drop count slots))

-- the state into which tokens come, and the time after which they do: where a term began, its full buckets and its start
abbrev pub entered : TermedMeter → ℕ → InTerm → Option ℕ → InTerm × ℕ
entered m from s None = (s, from)
entered m from s (Some n) = (record { term = n; levels = (any_rule (term m n).1).opening }, (term m n).0)
