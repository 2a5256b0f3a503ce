-- What a meter with terms does with a list of packets, in the words of its terms: each packet is metered by the meter of its time, whose
-- buckets were full at the start of that term and which sees no packet of another.
use Rattle.std.specs.Prelude.{◌≡◌, ℕ, ◌+◌, ◌<◌, ◌≤◌, ◌==◌, List, [], ◌∷◌, filter, length}
use Rattle.std.specs.List.{flat_map, range_with_len}
use Rattle.tca_meters.specs.declared.any_meter.AnyMeter.{AnyMeter}
use Rattle.tca_meters.specs.declared.colour.Colour.{Colour}
use Rattle.tca_meters.specs.AnyMeters.{any_rule}
use Rattle.tca_meters.specs.Packets.{Packet, coloured, colours}
use Rattle.tca_meters.specs.Termed.{IsTermed, TermedMeter, term, term_at, termed_rule}

-- no item is before the one in front of it, or before a time
abbrev pub NeverFall : {A : Type 0} → (A → Packet) → ℕ → List A → Type 0
NeverFall packet_of last [] = Unit {0}
NeverFall packet_of last (item ∷ items) = (last ≤ (packet_of item).time) × NeverFall packet_of (packet_of item).time items

-- the items of a term, and of items with their colours those of a term
abbrev pub of_term : {A : Type 0} → TermedMeter → (A → Packet) → ℕ → List A → List A
of_term m packet_of n items = filter (λ item. term_at m (packet_of item).time == n) items

abbrev pub coloured_of_term : {A : Type 0} → TermedMeter → (A → Packet) → ℕ → List (A × Colour) → List (A × Colour)
coloured_of_term m packet_of n pairs = filter (λ p. term_at m (packet_of p.0).time == n) pairs

-- items with the colours that a term's meter gives them by itself, from full buckets at its start on
abbrev pub coloured_alone : {A : Type 0} → TermedMeter → (A → Packet) → ℕ → List A → List (A × Colour)
coloured_alone m packet_of n items = coloured (any_rule (term m n).1) packet_of (any_rule (term m n).1).opening (term m n).0 items

-- the items of each term have the colours that its meter gives them by itself
abbrev pub AreApart : {A : Type 0} → TermedMeter → (A → Packet) → List A → Type 0
AreApart m packet_of items = (n : ℕ) → coloured_of_term m packet_of n (colours (termed_rule m) packet_of items) ≡ coloured_alone m packet_of n (of_term m packet_of n items)

-- so it is for all items whose times don't fall, where a meter's terms ascend
abbrev pub TermsApart : {A : Type 0} → TermedMeter → (A → Packet) → Type 0
TermsApart {A = A} m packet_of = IsTermed m → (items : List A) → NeverFall packet_of 0 items → AreApart m packet_of items

-- the numbers of a meter's terms, from the first meter's on
abbrev pub term_numbers : TermedMeter → List ℕ
term_numbers m = range_with_len 0 (length m.later + 1)

-- and all of these items with their colours are those of each term with the colours that its meter gives them by itself, one term after the other
abbrev pub TermsInTurn : {A : Type 0} → TermedMeter → (A → Packet) → Type 0
TermsInTurn {A = A} m packet_of = IsTermed m → (items : List A) → NeverFall packet_of 0 items
    → colours (termed_rule m) packet_of items ≡ flat_map (λ n. coloured_alone m packet_of n (of_term m packet_of n items)) (term_numbers m)

-- a meter without terms gives the colours of its first meter
abbrev pub IsPlain : {A : Type 0} → AnyMeter → (A → Packet) → Type 0
IsPlain {A = A} first packet_of = (items : List A) → colours (termed_rule (record { first = first; later = [] })) packet_of items ≡ colours (any_rule first) packet_of items

-- the number of a time's term: it has started by then, and no later one has
pub record IsTermOf (m : TermedMeter) (time n : ℕ) : Type 0 where
  pub inside : n ≤ length m.later
  pub started : (term m n).0 ≤ time
  pub last : (k : ℕ) → n < k → k ≤ length m.later → time < (term m k).0

-- where a meter's terms ascend, each time has its term
abbrev pub HaveTimes : TermedMeter → Type 0
HaveTimes m = IsTermed m → (time : ℕ) → IsTermOf m time (term_at m time)
