-- The sums of reports with one more.
use Rattle.std.proofs.Common.{◌≡◌, ℕ, ◌+◌, ◌≤◌, cond, eqb, List, [], ◌∷◌, ◌++◌, length, arith}
use Rattle.std.specs.Prelude.{slice_index}
use Rattle.std.proofs.lemmas.List.Sums.{sum_by_push, count_by-le-length}
use Rattle.tca_report.specs.report.Reports.{PacketReport}
use Rattle.tca_meters.specs.declared.colour.Colour.{Colour}
use Rattle.tca_meters.specs.declared.colour.Colour.TheVariants.{Green, Yellow, Red}
use Rattle.tca_meters.specs.Colours.{colour_number}
use Rattle.tca_accounts.specs.Sums.{octets_in, packets_in, sums_of, with_packet}

-- the octets of a colour with one report more
octets_push : (k : Colour) (pairs : List (PacketReport × Colour)) (r : PacketReport) (c : Colour)
    → octets_in k (pairs ++ (r, c) ∷ []) ≡ octets_in k pairs + cond (eqb (colour_number c) (colour_number k)) r.octets 0
octets_push k pairs r c = sum_by_push (λ (p : PacketReport × Colour). cond (eqb (colour_number p.1) (colour_number k)) p.0.octets 0) pairs (r, c)

-- and its packets
packets_push : (k : Colour) (pairs : List (PacketReport × Colour)) (r : PacketReport) (c : Colour)
    → packets_in k (pairs ++ (r, c) ∷ []) ≡ packets_in k pairs + cond (eqb (colour_number c) (colour_number k)) 1 0
packets_push k pairs r c = sum_by_push (λ (p : PacketReport × Colour). cond (eqb (colour_number p.1) (colour_number k)) 1 0) pairs (r, c)

same : (n m : ℕ) → n ≡ m + 0 → n ≡ m
same n m h = omega arith

pub sums_push : (pairs : List (PacketReport × Colour)) (r : PacketReport) (c : Colour) → sums_of (pairs ++ (r, c) ∷ []) ≡ with_packet c r.octets (sums_of pairs)
sums_push pairs r Green = λ i. record {
  octets = octets_push Green pairs r Green i ∷ same _ _ (octets_push Yellow pairs r Green) i ∷ same _ _ (octets_push Red pairs r Green) i ∷ [];
  packets = packets_push Green pairs r Green i ∷ same _ _ (packets_push Yellow pairs r Green) i ∷ same _ _ (packets_push Red pairs r Green) i ∷ [];
}
sums_push pairs r Yellow = λ i. record {
  octets = same _ _ (octets_push Green pairs r Yellow) i ∷ octets_push Yellow pairs r Yellow i ∷ same _ _ (octets_push Red pairs r Yellow) i ∷ [];
  packets = same _ _ (packets_push Green pairs r Yellow) i ∷ packets_push Yellow pairs r Yellow i ∷ same _ _ (packets_push Red pairs r Yellow) i ∷ [];
}
sums_push pairs r Red = λ i. record {
  octets = same _ _ (octets_push Green pairs r Red) i ∷ same _ _ (octets_push Yellow pairs r Red) i ∷ octets_push Red pairs r Red i ∷ [];
  packets = same _ _ (packets_push Green pairs r Red) i ∷ same _ _ (packets_push Yellow pairs r Red) i ∷ packets_push Red pairs r Red i ∷ [];
}

-- a colour has no more packets than there are reports
pub packets_few : (c : Colour) (pairs : List (PacketReport × Colour)) → slice_index (sums_of pairs).packets (colour_number c) ≤ length pairs
packets_few Green pairs = count_by-le-length (λ (p : PacketReport × Colour). eqb (colour_number p.1) 0) pairs
packets_few Yellow pairs = count_by-le-length (λ (p : PacketReport × Colour). eqb (colour_number p.1) 1) pairs
packets_few Red pairs = count_by-le-length (λ (p : PacketReport × Colour). eqb (colour_number p.1) 2) pairs
