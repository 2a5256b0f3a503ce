-- A stream of messages, one after the other, as in a file of RFC 5655.
use Rattle.std.specs.Prelude.{◌≡◌, ◌≢◌, ℕ, zero, suc, ◌<◌, ◌≤◌, ◌==◌, nat_lt, not, if◌then◌else◌, ◌⊎◌, List, [], ◌∷◌, ◌++◌, length, take, drop, map, Option, Some, None, Result, Ok, Err}
use Rattle.std.specs.List.{concat, AllByRecursion}
use Rattle.std.specs.Global.{Vec}
use Rattle.tca_wire.specs.Messages.{version_at, length_at}
use Rattle.tca_wire.specs.declared.fault.WireFault.{WireFault}
use Rattle.tca_wire.specs.declared.fault.WireFault.TheVariants.{Short, BadVersion, BadLength}

-- A frame says version 10 and the count of its octets, which are at least the 16 of its header.
pub record IsFrame (octets : List ℕ) : Type 0 where
  pub version : version_at octets ≡ 10
  pub whole : length_at octets ≡ length octets
  pub room : 16 ≤ length octets

-- Less than a frame: too few octets for a header, or a right header with fewer octets than it says.
abbrev pub IsPart : List ℕ → Type 0
IsPart octets = (length octets < 16) ⊎ ((version_at octets ≡ 10) × (16 ≤ length_at octets) × (length octets < length_at octets))

-- The header in front has another version than 10, or else a length below its own 16 octets.
abbrev pub IsFaulty : List ℕ → WireFault → Type 0
IsFaulty octets (BadVersion v) = (16 ≤ length octets) × (version_at octets ≡ v) × (v ≢ 10)
IsFaulty octets (BadLength n) = (16 ≤ length octets) × (version_at octets ≡ 10) × (length_at octets ≡ n) × (n < 16)
IsFaulty octets _ = ⊥

-- What a framer knows of the stream so far: the octets behind the last frame, or the fault that stands there.
pub data Framing : Type 0 where
  Holds : List ℕ → Framing
  Failed : WireFault → Framing

-- what stands behind the last frame of a stream
abbrev pub EndsAs : List ℕ → Framing → Type 0
EndsAs rest (Holds held) = (held ≡ rest) × IsPart rest
EndsAs rest (Failed fault) = IsFaulty rest fault

-- The octets are the frames, one after the other, and a rest.
pub record IsStream (octets : List ℕ) (frames : List (List ℕ)) (after : Framing) : Type 0 where
  pub rest : List ℕ
  pub whole : octets ≡ concat frames ++ rest
  pub each : AllByRecursion IsFrame frames
  pub ends : EndsAs rest after

-- A piece completes the frames of what is held and itself. After a fault there are none, and the fault stays.
abbrev pub Feeds : Framing → List ℕ → List (List ℕ) → Framing → Type 0
Feeds (Holds held) piece frames after = IsStream (held ++ piece) frames after
Feeds (Failed fault) piece frames after = (frames ≡ []) × (after ≡ Failed fault)

-- Part of a message is held.
abbrev pub HoldsPart : Framing → Type 0
HoldsPart (Holds held) = 0 < length held
HoldsPart (Failed fault) = ⊥

-- held octets, unless there is a fault
abbrev pub framing : List ℕ → Option WireFault → Framing
framing held None = Holds held
framing held (Some fault) = Failed fault

-- the fault, where there is one
abbrev pub fault_of : Framing → Option WireFault
fault_of (Holds held) = None
fault_of (Failed fault) = Some fault

-- how a stream ends: well where nothing is left of it
abbrev pub ending : Framing → Result (Unit {0}) WireFault
ending (Holds []) = Ok tt
ending (Holds (b ∷ bs)) = Err Short
ending (Failed fault) = Err fault

-- the octets of each message of a list
abbrev pub octets_of : List (Vec ℕ) → List (List ℕ)
octets_of messages = map (λ m. m.items) messages

-- What stands at the front of a stream: a frame of so many octets, part of one, or a header with a fault.
pub data AtFront : Type 0 where
  Whole : ℕ → AtFront
  Part : AtFront
  Faulty : WireFault → AtFront

-- which of them it is
abbrev pub at_front : List ℕ → AtFront
at_front octets =
    if nat_lt (length octets) 16 then Part
    else (if not (version_at octets == 10) then Faulty (BadVersion (version_at octets))
    else (if nat_lt (length_at octets) 16 then Faulty (BadLength (length_at octets))
    else (if nat_lt (length octets) (length_at octets) then Part
    else Whole (length_at octets))))

-- a stream with one frame more before its first
abbrev pub in_front : List ℕ → List (List ℕ) × Framing → List (List ℕ) × Framing
in_front frame stream = (frame ∷ stream.0, stream.1)

-- at most so many frames
unfoldable pub frames_for : ℕ → List ℕ → List (List ℕ) × Framing
frames_for zero octets = ([], Holds octets)
frames_for (suc most) octets = elim (at_front octets) [
  | Whole n ↦ in_front (take n octets) (frames_for most (drop n octets))
  | Part ↦ ([], Holds octets)
  | Faulty fault ↦ ([], Failed fault)
]

-- The frames of a stream, and what stands behind the last of them.
abbrev pub frames_of : List ℕ → List (List ℕ) × Framing
frames_of octets = frames_for (suc (length octets)) octets

-- The octets are frames, one after the other, and nothing else.
abbrev pub AreFrames : List ℕ → Type 0
AreFrames octets = (frames_of octets).1 ≡ Holds []

-- the frames of these octets and those of the others behind them
abbrev pub frames_of_both : List ℕ → List ℕ → List (List ℕ)
frames_of_both octets others = (frames_of octets).0 ++ (frames_of others).0
