-- The meter of RFC 4115: its parameters, and what one token and one packet do.
use Rattle.std.specs.Prelude.{ℕ, ◌+◌, ◌<◌, ◌≤◌, ◌==◌, Bool, ◌&&◌, Result, Ok, Err, if◌then◌else◌}
use Rattle.tca_buckets.specs.Tokens.{due, most_rate}
use Rattle.tca_meters.specs.declared.colour.Colour.{Colour}
use Rattle.tca_meters.specs.declared.fault.MeterFault.{MeterFault}
use Rattle.tca_meters.specs.declared.fault.MeterFault.TheVariants.{NoBurst, RateRange}
use Rattle.tca_meters.specs.declared.levels.Levels.{Levels}
use Rattle.tca_meters.specs.Colours.{counted}
use Rattle.tca_meters.specs.Faults.{in_range}
use Rattle.tca_meters.specs.Levels.{full_levels, filled_apart, committed_or_excess, AreOfSizes}
use Rattle.tca_meters.specs.Packets.{Rule}

-- the parameters of RFC 4115, whether a packet may take all tokens, and whether precolours count
pub record Rfc4115View : Type 0 where
  pub cir : ℕ
  pub cbs : ℕ
  pub eir : ℕ
  pub ebs : ℕ
  pub exact_fit : Bool
  pub aware : Bool

-- each is in range, and one burst size at least is above 0
pub record IsRfc4115 (m : Rfc4115View) : Type 0 where
  pub cir : m.cir ≤ most_rate
  pub cbs : m.cbs ≤ most_rate
  pub eir : m.eir ≤ most_rate
  pub ebs : m.ebs ≤ most_rate
  pub burst : 0 < m.cbs + m.ebs

-- a meter of these parameters, or why there is none
abbrev pub rfc4115_of : ℕ → ℕ → ℕ → ℕ → Bool → Bool → Result Rfc4115View MeterFault
rfc4115_of cir cbs eir ebs exact_fit aware =
    if (cbs == 0) && (ebs == 0) then Err NoBurst
    else (if in_range cir && (in_range cbs && (in_range eir && in_range ebs)) then Ok (record { cir = cir; cbs = cbs; eir = eir; ebs = ebs; exact_fit = exact_fit; aware = aware }) else Err RateRange)

-- at time 0 both buckets are full
abbrev pub opening_levels : Rfc4115View → Levels
opening_levels m = full_levels m.cbs m.ebs

-- each token of the committed rate goes to the committed bucket, and each of the excess rate to the excess bucket
abbrev pub filled_levels : Rfc4115View → ℕ → ℕ → Levels → Levels
filled_levels m from to = filled_apart (due m.cir from to) (due m.eir from to)

-- a packet takes committed tokens, else excess tokens, where it fits them by the meter's test
abbrev pub judged_packet : Rfc4115View → Levels → ℕ → Colour → Colour × Levels
judged_packet m = committed_or_excess m.exact_fit

-- the meter as a whole (RFC 4115)
abbrev pub rfc4115_rule : Rfc4115View → Rule Levels
rfc4115_rule m = record {
  opening = opening_levels m;
  filled = filled_levels m;
  judged = λ s octets pre. judged_packet m s octets (counted m.aware pre);
}

-- both buckets are of the meter's sizes
abbrev pub IsWithinSizes : Rfc4115View → Levels → Type 0
IsWithinSizes m s = AreOfSizes s m.cbs m.ebs
