-- The grammar of a message: a header, and sets that fill it.
use Rattle.std.specs.Prelude.{◌≡◌, ℕ, ◌+◌, ◌==◌, nat_lt, nat_le, ◌≤◌, Bool, true, not, ◌&&◌, if◌then◌else◌, List, [], ◌∷◌, ◌++◌, length, take, drop, Result, Ok, Err, IsOk}
use Rattle.byteorder.specs.Endian.{big_number}
use Rattle.tca_wire.specs.Walks.{Front, Ends, Bad, Next, walk}
use Rattle.tca_wire.specs.declared.message.Header.{Header}
use Rattle.tca_wire.specs.declared.message.SetSpan.{SetSpan}
use Rattle.tca_wire.specs.declared.fault.WireFault.{WireFault}
use Rattle.tca_wire.specs.declared.fault.WireFault.TheVariants.{Short, BadVersion, BadLength, SetLength, SetPastEnd, Trailing}

-- the version, which the first two octets of a header say
abbrev pub version_at : List ℕ → ℕ
version_at octets = big_number 2 octets

-- the length, which the next two say
abbrev pub length_at : List ℕ → ℕ
length_at octets = big_number 2 (drop 2 octets)

-- A set stands at the front of the octets: its identifier, its length, which is at least 4, and the octets that this says.
abbrev pub stands : ℕ → SetSpan → List ℕ → Bool
stands at s octets =
    (s.at == at) && ((s.id == big_number 2 octets) && ((s.length == big_number 2 (drop 2 octets)) && (nat_le 4 s.length && nat_le s.length (length octets))))

-- The sets, one after the other, are the octets.
unfoldable pub tile : ℕ → List SetSpan → List ℕ → Bool
tile at [] octets = length octets == 0
tile at (s ∷ ss) octets = stands at s octets && tile (at + s.length) ss (drop s.length octets)

-- the four numbers that a header says behind its version
abbrev pub header_at : List ℕ → Header
header_at octets = record {
  length = length_at octets;
  export_time = big_number 4 (drop 4 octets);
  sequence = big_number 4 (drop 8 octets);
  domain = big_number 4 (drop 12 octets);
}

-- The set at the front, or what is wrong there.
abbrev pub judged : ℕ → List ℕ → Result SetSpan WireFault
judged at octets =
    if nat_lt (length octets) 4 then Err (Trailing at)
    else (if nat_lt (big_number 2 (drop 2 octets)) 4 then Err (SetLength at)
    else (if nat_lt (length octets) (big_number 2 (drop 2 octets)) then Err (SetPastEnd at)
    else Ok (record { id = big_number 2 octets; at = at; length = big_number 2 (drop 2 octets) })))

-- The length that a header says, or what is wrong with the header.
abbrev pub judged_length : List ℕ → Result ℕ WireFault
judged_length octets =
    if not (version_at octets == 10) then Err (BadVersion (version_at octets))
    else (if nat_lt (length_at octets) 16 then Err (BadLength (length_at octets))
    else Ok (length_at octets))

-- The header of 16 octets or more, or what is wrong with it.
abbrev pub judged_header : List ℕ → Result Header WireFault
judged_header octets =
    if not (version_at octets == 10) then Err (BadVersion (version_at octets))
    else (if nat_lt (length_at octets) 16 then Err (BadLength (length_at octets))
    else Ok (header_at octets))

-- A right header, all the octets that it says, and a right set behind it.
pub record HasSet (octets : List ℕ) : Type 0 where
  pub whole : 16 ≤ length octets
  pub header : IsOk (judged_header octets)
  pub all : length_at octets ≤ length octets
  pub set : IsOk (judged 16 (drop 16 (take (length_at octets) octets)))

-- The octets begin with a message of this header and these sets.
pub record IsMessage (octets : List ℕ) (h : Header) (ss : List SetSpan) : Type 0 where
  pub version : version_at octets ≡ 10
  pub header : h ≡ header_at octets
  pub room : 16 ≤ h.length
  pub whole : h.length ≤ length octets
  pub sets : tile 16 ss (drop 16 (take h.length octets)) ≡ true

-- with the set that was judged as the last, or its fault
abbrev pub after : List SetSpan → Result SetSpan WireFault → Front (List SetSpan) WireFault
after sets (Ok s) = Next (sets ++ s ∷ []) s.length
after sets (Err f) = Bad f

-- what stands at the front of the octets behind some sets
unfoldable pub set_front : List SetSpan → ℕ → List ℕ → Front (List SetSpan) WireFault
set_front sets at [] = Ends
set_front sets at (b ∷ bs) = after sets (judged at (b ∷ bs))

-- the sets of a message's octets behind its header, or the first fault among them
abbrev pub sets_of : List ℕ → Result (List SetSpan) WireFault
sets_of octets = walk set_front [] 16 octets

-- a header with the sets behind it, or their fault
abbrev pub with_header : Header → Result (List SetSpan) WireFault → Result (Header × List SetSpan) WireFault
with_header h (Ok ss) = Ok (h, ss)
with_header h (Err f) = Err f

-- The message at the front, or the first fault from the left.
unfoldable pub message_of : List ℕ → Result (Header × List SetSpan) WireFault
message_of octets =
    if nat_lt (length octets) 16 then Err Short
    else (if not (version_at octets == 10) then Err (BadVersion (version_at octets))
    else (if nat_lt (length_at octets) 16 then Err (BadLength (length_at octets))
    else (if nat_lt (length octets) (length_at octets) then Err Short
    else with_header (header_at octets) (sets_of (drop 16 (take (length_at octets) octets))))))
