-- The faults by number, and the parameters that meters refuse.
use Rattle.std.specs.Prelude.{ℕ, Bool, nat_le}
use Rattle.tca_buckets.specs.Tokens.{most_rate}
use Rattle.tca_meters.specs.declared.fault.MeterFault.{MeterFault}
use Rattle.tca_meters.specs.declared.fault.MeterFault.TheVariants.{NoBurst, PeakBelowCommitted, RateRange}
use Rattle.tca_meters.specs.declared.spec.SpecFault.{SpecFault}
use Rattle.tca_meters.specs.declared.spec.SpecFault.TheVariants.{Text, Meter}

-- the number of each fault
abbrev pub fault_number : MeterFault → ℕ
fault_number NoBurst = 1
fault_number PeakBelowCommitted = 2
fault_number RateRange = 3

-- the number of each fault of a text
abbrev pub spec_number : SpecFault → ℕ
spec_number Text = 1
spec_number (Meter fault) = 2

-- the range of rates and burst sizes
abbrev pub in_range : ℕ → Bool
in_range value = nat_le value most_rate
