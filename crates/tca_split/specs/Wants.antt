-- Where memory is wanted for the first reading of a capture: all that stands before is right.
use Rattle.std.specs.Prelude.{◌≡◌, ◌⊎◌, ◌≤◌, ◌<◌, ℕ, false, List, ◌++◌, ◌∷◌, length, drop, Option, Some, None}
use Rattle.tca_wire.specs.Frames.{HoldsPart, frames_of, fault_of}
use Rattle.tca_report.specs.device.Devices.{read_size}
use Rattle.tca_split.specs.Parts.{domain_of, domains_of}
use Rattle.tca_split.specs.Surveys.{most_domains, is_among}

-- the messages that end in a piece of the capture, behind a front of it
abbrev pub ending_in : List ℕ → List ℕ → List (List ℕ)
ending_in front piece = drop (length (frames_of front).0) (frames_of (front ++ piece)).0

-- Part of a message is kept: one began before the piece and ends in it, or one isn't there whole behind it.
abbrev pub BringPart : List ℕ → List ℕ → Type 0
BringPart front piece =
    (HoldsPart (frames_of front).1 × (0 < length (ending_in front piece))) ⊎ HoldsPart (frames_of (front ++ piece)).1

-- The message is the first of its domain. The messages before it are of fewer domains than the most, so with it they are few enough.
abbrev pub IsNewDomain : List (List ℕ) → List ℕ → Type 0
IsNewDomain before message = (is_among (domain_of message) (domains_of before) ≡ false) × (length (domains_of before) < most_domains)

-- One of these messages, which stand behind others, is the first of its domain.
pub record BringDomain (others messages : List (List ℕ)) : Type 0 where
  pub before : List (List ℕ)
  pub message : List ℕ
  pub behind : List (List ℕ)
  pub parts : messages ≡ before ++ message ∷ behind
  pub new : IsNewDomain (others ++ before) message

-- What brings memory to be wanted for a piece behind a front of the capture: part of a message, or else a message's domain.
abbrev pub BringMore : List ℕ → List ℕ → Type 0
BringMore front piece = BringPart front piece ⊎ BringDomain (frames_of front).0 (ending_in front piece)

-- Memory is wanted for the piece that was read last. In front of it the framing has no fault, and the domains are few enough.
pub record WantsMemory (octets : List ℕ) (left : Option (List ℕ)) : Type 0 where
  pub front : List ℕ
  pub piece : List ℕ
  pub rest : List ℕ
  pub read : octets ≡ (front ++ piece) ++ rest
  pub behind : left ≡ Some rest
  pub short : length piece ≤ read_size
  pub right : fault_of (frames_of front).1 ≡ None
  pub few : length (domains_of (frames_of front).0) ≤ most_domains
  pub brought : BringMore front piece
