-- What a meter does with a list of packets.
use Rattle.std.specs.Prelude.{ℕ, List, [], ◌∷◌}
use Rattle.tca_meters.specs.declared.colour.Colour.{Colour}

-- what a meter needs of a packet: its time in milliseconds, its octets, and the colour that it had
pub record Packet : Type 0 where
  pub time : ℕ
  pub octets : ℕ
  pub pre : Colour

-- a meter: its state at time 0, a state after the tokens of an interval came in one at a time, and
-- the colour of a packet by its octets and its precolour, with the state after it
pub record Rule (S : Type 0) : Type 0 where
  pub opening : S
  pub filled : ℕ → ℕ → S → S
  pub judged : S → ℕ → Colour → Colour × S

-- one step: the colour of a packet that comes in a state, and the state after it. Before it the tokens come in that are due
-- since the packet before it, one at a time, and then the packet is judged
abbrev pub answer : {S : Type 0} → Rule S → S → ℕ → Packet → Colour × S
answer rule state last packet = rule.judged (rule.filled last packet.time state) packet.octets packet.pre

-- each item with its colour, from a state at a time on: one step after another
unfoldable pub coloured : {S A : Type 0} → Rule S → (A → Packet) → S → ℕ → List A → List (A × Colour)
coloured rule packet_of state last [] = []
coloured rule packet_of state last (item ∷ items) =
    let packet = packet_of item in
    let found = answer rule state last packet in
    (item, found.0) ∷ coloured rule packet_of found.1 packet.time items

-- each item with its colour, from time 0 on
abbrev pub colours : {S A : Type 0} → Rule S → (A → Packet) → List A → List (A × Colour)
colours rule packet_of items = coloured rule packet_of rule.opening 0 items
