-- The octets and the packets of each colour.
use Rattle.std.specs.Prelude.{ℕ, ◌+◌, ◌≤◌, ◌*◌, ◌==◌, ◌≡◌, List, [], ◌∷◌, length, sum_by, count_by, slice_index, set, if◌then◌else◌}
use Rattle.tca_report.specs.report.Reports.{PacketReport, most_octets, most_reports}
use Rattle.tca_meters.specs.declared.colour.Colour.{Colour}
use Rattle.tca_meters.specs.declared.colour.Colour.TheVariants.{Green, Yellow, Red}
use Rattle.tca_meters.specs.Colours.{colour_number}
use Rattle.tca_meters.specs.CodePoints.{precolour}
use Rattle.tca_meters.specs.Packets.{Packet}

-- what a meter sees of a report: its time, its octets, and as the colour that it had the one of its code point, or `other` where
-- that has none
abbrev pub packet_of : Colour → PacketReport → Packet
packet_of other r = record { time = r.time; octets = r.octets; pre = precolour r.dscp other }

-- the octets of the reports of a colour
abbrev pub octets_in : Colour → List (PacketReport × Colour) → ℕ
octets_in c pairs = sum_by (λ p. if colour_number p.1 == colour_number c then p.0.octets else 0) pairs

-- how many reports have a colour
abbrev pub packets_in : Colour → List (PacketReport × Colour) → ℕ
packets_in c pairs = count_by (λ p. colour_number p.1 == colour_number c) pairs

-- octets and packets by green, yellow, red
pub record ColourSums : Type 0 where
  pub octets : List ℕ
  pub packets : List ℕ

-- the sums of reports with their colours
abbrev pub sums_of : List (PacketReport × Colour) → ColourSums
sums_of pairs = record {
  octets = octets_in Green pairs ∷ octets_in Yellow pairs ∷ octets_in Red pairs ∷ [];
  packets = packets_in Green pairs ∷ packets_in Yellow pairs ∷ packets_in Red pairs ∷ [];
}

-- a colour has at most 4,194,304 packets, and at most 65,575 octets for each
pub record AreInRange (s : ColourSums) : Type 0 where
  pub octets_length : length s.octets ≡ 3
  pub packets_length : length s.packets ≡ 3
  pub packets : (c : Colour) → slice_index s.packets (colour_number c) ≤ most_reports
  pub octets : (c : Colour) → slice_index s.octets (colour_number c) ≤ most_octets * slice_index s.packets (colour_number c)

-- an entry that is greater by some amount
abbrev pub added_at : ℕ → ℕ → List ℕ → List ℕ
added_at n more values = set values n (slice_index values n + more)

-- with one more packet of a colour
abbrev pub with_packet : Colour → ℕ → ColourSums → ColourSums
with_packet c octets s = record {
  octets = added_at (colour_number c) octets s.octets;
  packets = added_at (colour_number c) 1 s.packets;
}
