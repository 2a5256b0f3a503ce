-- The meter of RFC 2698: its parameters, and what one token and one packet do.
use Rattle.std.specs.Prelude.{ℕ, ◌<◌, ◌≤◌, ◌==◌, Bool, true, ◌&&◌, ◌||◌, not, nat_lt, Result, Ok, Err, if◌then◌else◌}
use Rattle.tca_buckets.specs.Tokens.{due, most_rate}
use Rattle.tca_buckets.specs.Buckets.{fits, after_spending}
use Rattle.tca_meters.specs.declared.colour.Colour.{Colour}
use Rattle.tca_meters.specs.declared.colour.Colour.TheVariants.{Green, Yellow, Red}
use Rattle.tca_meters.specs.declared.fault.MeterFault.{MeterFault}
use Rattle.tca_meters.specs.declared.fault.MeterFault.TheVariants.{NoBurst, PeakBelowCommitted, RateRange}
use Rattle.tca_meters.specs.declared.levels.Levels.{Levels}
use Rattle.tca_meters.specs.Colours.{is_yellow, is_red, counted}
use Rattle.tca_meters.specs.Faults.{in_range}
use Rattle.tca_meters.specs.Levels.{full_levels, filled_apart, AreOfSizes}
use Rattle.tca_meters.specs.Packets.{Rule}

-- the parameters of RFC 2698 section 2, and whether precolours count
pub record TrTcmView : Type 0 where
  pub pir : ℕ
  pub pbs : ℕ
  pub cir : ℕ
  pub cbs : ℕ
  pub aware : Bool

-- each is in range, both burst sizes are above 0, and the peak rate is at least the committed rate
pub record IsTrTcm (m : TrTcmView) : Type 0 where
  pub pir : m.pir ≤ most_rate
  pub pbs : m.pbs ≤ most_rate
  pub cir : m.cir ≤ most_rate
  pub cbs : m.cbs ≤ most_rate
  pub peak_burst : 0 < m.pbs
  pub committed_burst : 0 < m.cbs
  pub peak : m.cir ≤ m.pir

-- a meter of these parameters, or why there is none
abbrev pub trtcm_of : ℕ → ℕ → ℕ → ℕ → Bool → Result TrTcmView MeterFault
trtcm_of pir pbs cir cbs aware =
    if (pbs == 0) || (cbs == 0) then Err NoBurst
    else (if nat_lt pir cir then Err PeakBelowCommitted
    else (if in_range pir && (in_range pbs && (in_range cir && in_range cbs)) then Ok (record { pir = pir; pbs = pbs; cir = cir; cbs = cbs; aware = aware }) else Err RateRange))

-- at time 0 both buckets are full; the bucket beside the committed one is the peak bucket
abbrev pub opening_levels : TrTcmView → Levels
opening_levels m = full_levels m.cbs m.pbs

-- each token of the committed rate goes to the committed bucket, and each of the peak rate to the peak bucket
abbrev pub filled_levels : TrTcmView → ℕ → ℕ → Levels → Levels
filled_levels m from to = filled_apart (due m.cir from to) (due m.pir from to)

-- a red packet and one for which there are too few peak tokens is red and spends nothing; another that is yellow, or for which there are too few committed tokens, is yellow and spends peak tokens; any other is green and spends both
abbrev pub judged_packet : Levels → ℕ → Colour → Colour × Levels
judged_packet s octets pre =
    if is_red pre || not (fits s.excess octets true) then (Red, s)
    else (if is_yellow pre || not (fits s.committed octets true) then (Yellow, record s { excess = after_spending s.excess octets })
    else (Green, record { committed = after_spending s.committed octets; excess = after_spending s.excess octets }))

-- the meter as a whole (RFC 2698 section 3)
abbrev pub trtcm_rule : TrTcmView → Rule Levels
trtcm_rule m = record {
  opening = opening_levels m;
  filled = filled_levels m;
  judged = λ s octets pre. judged_packet s octets (counted m.aware pre);
}

-- both buckets are of the meter's sizes
abbrev pub IsWithinSizes : TrTcmView → Levels → Type 0
IsWithinSizes m s = AreOfSizes s m.cbs m.pbs
