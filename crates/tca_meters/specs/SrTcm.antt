-- The meter of RFC 2697: its parameters, and what one token and one packet do.
use Rattle.std.specs.Prelude.{ℕ, ◌+◌, ◌<◌, ◌≤◌, ◌==◌, Bool, true, ◌&&◌, Result, Ok, Err, if◌then◌else◌}
use Rattle.tca_buckets.specs.Tokens.{due, most_rate}
use Rattle.tca_buckets.specs.Buckets.{TokenBucket, spill, repeated}
use Rattle.tca_meters.specs.declared.colour.Colour.{Colour}
use Rattle.tca_meters.specs.declared.fault.MeterFault.{MeterFault}
use Rattle.tca_meters.specs.declared.fault.MeterFault.TheVariants.{NoBurst, RateRange}
use Rattle.tca_meters.specs.declared.levels.Levels.{Levels}
use Rattle.tca_meters.specs.Colours.{counted}
use Rattle.tca_meters.specs.Faults.{in_range}
use Rattle.tca_meters.specs.Levels.{full_levels, committed_or_excess, AreOfSizes}
use Rattle.tca_meters.specs.Packets.{Rule}

-- the parameters of RFC 2697 section 2, and whether precolours count
pub record SrTcmView : Type 0 where
  pub cir : ℕ
  pub cbs : ℕ
  pub ebs : ℕ
  pub aware : Bool

-- each is in range, and one burst size at least is above 0
pub record IsSrTcm (m : SrTcmView) : Type 0 where
  pub cir : m.cir ≤ most_rate
  pub cbs : m.cbs ≤ most_rate
  pub ebs : m.ebs ≤ most_rate
  pub burst : 0 < m.cbs + m.ebs

-- a meter of these parameters, or why there is none
abbrev pub srtcm_of : ℕ → ℕ → ℕ → Bool → Result SrTcmView MeterFault
srtcm_of cir cbs ebs aware =
    if (cbs == 0) && (ebs == 0) then Err NoBurst
    else (if in_range cir && (in_range cbs && in_range ebs) then Ok (record { cir = cir; cbs = cbs; ebs = ebs; aware = aware }) else Err RateRange)

-- at time 0 both buckets are full
abbrev pub opening_levels : SrTcmView → Levels
opening_levels m = full_levels m.cbs m.ebs

-- the two buckets as a state
abbrev pub levels : TokenBucket × TokenBucket → Levels
levels p = record { committed = p.0; excess = p.1 }

-- each token of the committed rate goes to the committed bucket, else to the excess bucket, else it is lost
abbrev pub filled_levels : SrTcmView → ℕ → ℕ → Levels → Levels
filled_levels m from to s = levels (repeated (due m.cir from to) spill (s.committed, s.excess))

-- RFC 2697 section 3, where a packet may take all tokens
abbrev pub judged_packet : Levels → ℕ → Colour → Colour × Levels
judged_packet = committed_or_excess true

-- the meter as a whole
abbrev pub srtcm_rule : SrTcmView → Rule Levels
srtcm_rule m = record {
  opening = opening_levels m;
  filled = filled_levels m;
  judged = λ s octets pre. judged_packet s octets (counted m.aware pre);
}

-- both buckets are of the meter's sizes
abbrev pub IsWithinSizes : SrTcmView → Levels → Type 0
IsWithinSizes m s = AreOfSizes s m.cbs m.ebs
