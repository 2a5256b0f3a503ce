-- What a capture is made of, by its framing alone.
use Rattle.std.specs.Prelude.{◌≡◌, ℕ, ◌==◌, nat_lt, min, ◌^◌, ◌-◌, Bool, if◌then◌else◌, List, length, Result, Ok, Err}
use Rattle.std.specs.List.{list_any}
use Rattle.tca_wire.specs.Frames.{Framing, frames_of, ending}
use Rattle.tca_wire.specs.declared.fault.WireFault.{WireFault}
use Rattle.tca_split.specs.Parts.{domains_of}
use Rattle.tca_split.specs.declared.fault.SplitFault.{SplitFault}
use Rattle.tca_split.specs.declared.fault.SplitFault.TheVariants.{Wire, Limits}

-- a capture has messages of at most so many domains
abbrev pub most_domains : ℕ
most_domains = 4096

-- whether a domain is one of these
abbrev pub is_among : ℕ → List ℕ → Bool
is_among domain domains = list_any (λ d. domain == d) domains

abbrev pub unless_cut : List ℕ → ℕ → Result (Unit {0}) WireFault → Result (List ℕ × ℕ) SplitFault
unless_cut domains messages (Ok x) = Ok (domains, messages)
unless_cut domains messages (Err fault) = Err (Wire fault)

-- the domains of these messages and their number, unless the domains are too many, or what stands behind the last message is a fault
abbrev pub surveyed_as : List (List ℕ) → Framing → Result (List ℕ × ℕ) SplitFault
surveyed_as messages after =
    if nat_lt most_domains (length (domains_of messages)) then Err Limits
    else unless_cut (domains_of messages) (length messages) (ending after)

-- The domains of a capture's messages, in the order in which they first come, and how many messages there are; or the first thing from the
-- left for which it isn't split. A message of a domain too many stands before whatever is wrong behind the last message.
abbrev pub surveyed : List ℕ → Result (List ℕ × ℕ) SplitFault
surveyed octets = surveyed_as (frames_of octets).0 (frames_of octets).1

-- a number as a u64 can tell it
abbrev pub as_u64 : ℕ → ℕ
as_u64 n = min n (2 ^ 64 - 1)

-- the framing of a capture has no fault, and its messages are of few enough domains
abbrev pub IsRight : List ℕ → Type 0
IsRight octets = surveyed octets ≡ Ok (domains_of (frames_of octets).0, length (frames_of octets).0)
