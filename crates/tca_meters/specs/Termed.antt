-- A meter that changes at stated times: its terms, and what tokens and packets do from one to the next.
use Rattle.std.specs.Prelude.{◌≡◌, ℕ, ◌≤◌, Bool, true, ◌&&◌, nat_le, nat_lt, List, [], ◌∷◌, length, get_or, Option, Some, None, if◌then◌else◌}
use Rattle.std.specs.List.{prefix_len}
use Rattle.tca_buckets.specs.Tokens.{time_end}
use Rattle.tca_meters.specs.declared.any_meter.AnyMeter.{AnyMeter}
use Rattle.tca_meters.specs.declared.colour.Colour.{Colour}
use Rattle.tca_meters.specs.declared.levels.Levels.{Levels}
use Rattle.tca_meters.specs.declared.termed.InTerm.{InTerm}
use Rattle.tca_meters.specs.AnyMeters.{any_rule, is_aware}
use Rattle.tca_meters.specs.AnyMeters as any
use Rattle.tca_meters.specs.Packets.{Rule}

-- a first meter, and the terms after it: each the millisecond at which it starts, and the meter from then on
pub record TermedMeter : Type 0 where
  pub first : AnyMeter
  pub later : List (ℕ × AnyMeter)

-- the most terms after the first meter's
abbrev pub most_terms : ℕ
most_terms = 8

-- each term starts later than the one before it, and before times end
abbrev pub ascend_from : ℕ → List (ℕ × AnyMeter) → Bool
ascend_from last [] = true
ascend_from last (t ∷ ts) = nat_lt last t.0 && (nat_lt t.0 time_end && ascend_from t.0 ts)

-- there are at most 8, and they ascend, the first from above time 0
pub record IsTermed (m : TermedMeter) : Type 0 where
  pub few : length m.later ≤ most_terms
  pub ascend : ascend_from 0 m.later ≡ true

-- a meter of these terms, if there is one
abbrev pub termed : AnyMeter → List (ℕ × AnyMeter) → Option TermedMeter
termed first later = if nat_le (length later) most_terms && ascend_from 0 later then Some (record { first = first; later = later }) else None

-- term n: term 0 is the first meter's, from time 0 on
abbrev pub term : TermedMeter → ℕ → ℕ × AnyMeter
term m n = get_or ((0, m.first) ∷ m.later) n (0, m.first)

-- the number of the term of a time: so many have started by then
abbrev pub term_at : TermedMeter → ℕ → ℕ
term_at m time = prefix_len (λ t. nat_le t.0 time) m.later

-- the term that begins in an interval, after its first time and at or before its last one; where several do, the last of them
abbrev pub begun : TermedMeter → ℕ → ℕ → Option ℕ
begun m from to = if nat_lt (term_at m from) (term_at m to) then Some (term_at m to) else None

-- the levels of a term: both full at its start, and then the tokens after its start
abbrev pub levels_since : ℕ × AnyMeter → ℕ → Levels
levels_since t time = (any_rule t.1).filled t.0 time (any_rule t.1).opening

-- a state after the tokens of an interval: where a term began in it, that term's levels; else those of the state's term come in
abbrev pub after_tokens : TermedMeter → ℕ → ℕ → InTerm → Option ℕ → InTerm
after_tokens m from to s None = record { term = s.term; levels = (any_rule (term m s.term).1).filled from to s.levels }
after_tokens m from to s (Some n) = record { term = n; levels = levels_since (term m n) to }

-- a packet is judged by the meter of the state's term
abbrev pub judged_in_term : TermedMeter → InTerm → ℕ → Colour → Colour × InTerm
judged_in_term m s octets pre =
    let found = (any_rule (term m s.term).1).judged s.levels octets pre in
    (found.0, record { term = s.term; levels = found.1 })

-- the meter as a whole
unfoldable pub termed_rule : TermedMeter → Rule InTerm
termed_rule m = record {
  opening = record { term = 0; levels = (any_rule m.first).opening };
  filled = λ from to s. after_tokens m from to s (begun m from to);
  judged = judged_in_term m;
}

-- the levels are within the sizes of the state's term
abbrev pub IsWithinSizes : TermedMeter → InTerm → Type 0
IsWithinSizes m s = any.IsWithinSizes (term m s.term).1 s.levels

-- whether precolours count in the state's term
abbrev pub is_aware_in : TermedMeter → InTerm → Bool
is_aware_in m s = is_aware (term m s.term).1
