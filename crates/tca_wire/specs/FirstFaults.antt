-- Octets that begin with no message, and the fault that is the first from the left.
use Rattle.std.specs.Prelude.{◌≡◌, ◌⊎◌, ℕ, ◌+◌, ◌<◌, ◌≤◌, true, List, [], ◌∷◌, length, take, drop}
use Rattle.byteorder.specs.Endian.{big_number}
use Rattle.tca_wire.specs.Messages.{version_at, length_at, stands}
use Rattle.tca_wire.specs.Frames.{IsPart, IsFaulty}
use Rattle.tca_wire.specs.declared.message.SetSpan.{SetSpan}
use Rattle.tca_wire.specs.declared.fault.WireFault.{WireFault}
use Rattle.tca_wire.specs.declared.fault.WireFault.TheVariants.{Short, SetLength, SetPastEnd, Trailing}

-- There are octets at this place and no set: one to three of them, or a length below 4, or a length past their end.
abbrev pub IsNoSet : ℕ → List ℕ → WireFault → Type 0
IsNoSet at octets (Trailing n) = (n ≡ at) × (0 < length octets) × (length octets < 4)
IsNoSet at octets (SetLength n) = (n ≡ at) × (4 ≤ length octets) × (big_number 2 (drop 2 octets) < 4)
IsNoSet at octets (SetPastEnd n) = (n ≡ at) × (4 ≤ length octets) × (4 ≤ big_number 2 (drop 2 octets)) × (length octets < big_number 2 (drop 2 octets))
IsNoSet at octets _ = ⊥

-- These sets stand one after the other, and then octets that are no set.
abbrev pub EndsInNoSet : List SetSpan → ℕ → List ℕ → WireFault → Type 0
EndsInNoSet [] at octets fault = IsNoSet at octets fault
EndsInNoSet (s ∷ ss) at octets fault = (stands at s octets ≡ true) × EndsInNoSet ss (at + s.length) (drop s.length octets) fault

-- A right header, all the octets that it says, and among its sets the first that is none.
pub record HasNoSet (octets : List ℕ) (fault : WireFault) : Type 0 where
  pub version : version_at octets ≡ 10
  pub room : 16 ≤ length_at octets
  pub whole : length_at octets ≤ length octets
  pub before : List SetSpan
  pub sets : EndsInNoSet before 16 (drop 16 (take (length_at octets) octets)) fault

-- The octets begin with no message: they end before it does, or its header is faulty, or what should be a set is none.
abbrev pub IsFirstFault : List ℕ → WireFault → Type 0
IsFirstFault octets fault = ((fault ≡ Short) × IsPart octets) ⊎ (IsFaulty octets fault ⊎ HasNoSet octets fault)
