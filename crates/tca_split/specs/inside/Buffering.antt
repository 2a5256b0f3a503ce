-- What becomes of the messages of a second reading: a domain's go behind what its buffer holds, and from the front of the buffer to its file.
-- Cited inside this crate alone.
use Rattle.std.specs.Prelude.{◌≡◌, ℕ, ⊤, false, List, [], ◌∷◌, ◌++◌, Option, Some, None, Err, option_map, is_some, if◌then◌else◌}
use Rattle.std.specs.List.{concat, AllByRecursion}
use Rattle.std.specs.BTreeMap.{get}
use Rattle.std.specs.Ordering.{nat_cmp}
use Rattle.tca_report.specs.declared.device.octets.ReadFault.TheVariants as read
use Rattle.tca_wire.specs.Frames.{Framing, Feeds, IsFrame, fault_of, frames_of, ending}
use Rattle.tca_split.specs.Parts.{domain_of, messages_of}
use Rattle.tca_split.specs.Surveys.{is_among}
use Rattle.tca_split.specs.Folders.{Files, Lengthens, Creates}
use Rattle.tca_split.specs.inside.Surveying.{IsFramed}
use Rattle.tca_split.specs.declared.buffers.Buffers.{Buffers}
use Rattle.tca_split.specs.declared.fault.SplitFault.{SplitFault}
use Rattle.tca_split.specs.declared.fault.SplitFault.TheVariants.{Read, Wire, Limits, Exists, Changed, Write, Memory}

-- the octets that are kept for each domain, where it has a buffer
abbrev pub Kept : Type 0
Kept = ℕ → Option (List ℕ)

abbrev pub buffered : Buffers → ℕ → Option (List ℕ)
buffered b domain = option_map (λ v. v.items) (get nat_cmp b.buffers domain)

-- an empty buffer for each of these domains
abbrev pub empty_for : List ℕ → ℕ → Option (List ℕ)
empty_for domains domain = if is_among domain domains then Some [] else None

-- Of these octets the front went to the domain's file, and these are left.
pub record Leaves (domain : ℕ) (octets left : List ℕ) (files after : Option Files) : Type 0 where
  pub written : List ℕ
  pub parts : octets ≡ written ++ left
  pub grown : Lengthens domain written files after

-- Octets from the front of these went to the domain's file.
pub record Starts (domain : ℕ) (octets : List ℕ) (files after : Option Files) : Type 0 where
  pub front : List ℕ
  pub rest : List ℕ
  pub parts : octets ≡ front ++ rest
  pub grown : Lengthens domain front files after

-- Files were made for the first of these domains.
pub record StartsMaking (domains : List ℕ) (files after : Option Files) : Type 0 where
  pub made : List ℕ
  pub rest : List ℕ
  pub parts : domains ≡ made ++ rest
  pub creates : Creates made files after

-- A domain's messages went behind what its buffer holds, and from the front of the buffer to its file. Where it has no buffer there are none.
abbrev pub TakesPart : List (List ℕ) → Option (List ℕ) → Option (List ℕ) → Option (List ℕ) → Option (List ℕ) → Type 0
TakesPart messages None file now after = (messages ≡ []) × (now ≡ None) × (after ≡ file)
TakesPart messages (Some kept) file now after =
    (written : List ℕ) × (left : List ℕ) × (kept ++ concat messages ≡ written ++ left) × (now ≡ Some left) × (after ≡ option_map (λ xs. xs ++ written) file)

-- so it is with each domain, where the files are known
abbrev pub Takes : List (List ℕ) → Kept → Option Files → Kept → Option Files → Type 0
Takes messages kept None now after = ⊤
Takes messages kept (Some files) now None = ⊥
Takes messages kept (Some files) now (Some after) = (d : ℕ) → TakesPart (messages_of d messages) (kept d) (files d) (now d) (after d)

-- From the front of what a buffer holds and the domain's messages octets went to its file. Where it has no buffer the file is as it was.
abbrev pub BeginsPart : List (List ℕ) → Option (List ℕ) → Option (List ℕ) → Option (List ℕ) → Type 0
BeginsPart messages None file after = after ≡ file
BeginsPart messages (Some kept) file after =
    (front : List ℕ) × (rest : List ℕ) × (kept ++ concat messages ≡ front ++ rest) × (after ≡ option_map (λ xs. xs ++ front) file)

abbrev pub Begins : List (List ℕ) → Kept → Option Files → Option Files → Type 0
Begins messages kept None after = ⊤
Begins messages kept (Some files) None = ⊥
Begins messages kept (Some files) (Some after) = (d : ℕ) → BeginsPart (messages_of d messages) (kept d) (files d) (after d)

-- the same domains have buffers
abbrev pub SameDomains : Kept → Kept → Type 0
SameDomains old new = (d : ℕ) → is_some (new d) ≡ is_some (old d)

-- One of the messages is of a domain without a buffer.
pub record HasStranger (messages : List (List ℕ)) (kept : Kept) : Type 0 where
  pub front : List (List ℕ)
  pub message : List ℕ
  pub behind : List (List ℕ)
  pub parts : messages ≡ front ++ message ∷ behind
  pub stranger : is_some (kept (domain_of message)) ≡ false

-- why messages aren't taken: one is of a domain without a buffer, or a write failed
abbrev pub AreRefused : List (List ℕ) → Kept → SplitFault → Type 0
AreRefused messages kept (Read fault) = ⊥
AreRefused messages kept (Wire fault) = ⊥
AreRefused messages kept Limits = ⊥
AreRefused messages kept Exists = ⊥
AreRefused messages kept Changed = HasStranger messages kept
AreRefused messages kept Write = ⊤
AreRefused messages kept Memory = ⊥

-- why a piece isn't taken: the header behind its messages has a fault, or they aren't taken
abbrev pub IsPieceRefused : List (List ℕ) → Framing → Kept → SplitFault → Type 0
IsPieceRefused messages after kept (Read fault) = ⊥
IsPieceRefused messages after kept (Wire fault) = fault_of after ≡ Some fault
IsPieceRefused messages after kept Limits = ⊥
IsPieceRefused messages after kept Exists = ⊥
IsPieceRefused messages after kept Changed = HasStranger messages kept
IsPieceRefused messages after kept Write = ⊤
IsPieceRefused messages after kept Memory = ⊥

-- The messages at the front of the octets were taken, and the rest is left.
pub record HasTaken (octets rest : List ℕ) (kept : Kept) (files : Option Files) (now : Kept) (done : Option Files) : Type 0 where
  pub messages : List (List ℕ)
  pub whole : octets ≡ concat messages ++ rest
  pub each : AllByRecursion IsFrame messages
  pub taken : Takes messages kept files now done

-- A piece brought these messages, and all were taken. No fault stands behind them.
pub record TakesPiece (framer : Framing) (piece : List ℕ) (after : Framing) (kept : Kept) (files : Option Files) (now : Kept) (done : Option Files) : Type 0 where
  pub messages : List (List ℕ)
  pub fed : Feeds framer piece messages after
  pub right : fault_of after ≡ None
  pub taken : Takes messages kept files now done

-- A piece brought these messages, and not all were taken, or a fault stands behind them.
pub record StopsInPiece (framer : Framing) (piece : List ℕ) (kept : Kept) (files done : Option Files) (e : SplitFault) : Type 0 where
  pub messages : List (List ℕ)
  pub after : Framing
  pub fed : Feeds framer piece messages after
  pub begun : Begins messages kept files done
  pub refused : IsPieceRefused messages after kept e

-- What was read of these octets was taken, and what is left of them is still to come.
pub record HasRead (octets : List ℕ) (left : Option (List ℕ)) (framer : Framing) (kept : Kept) (files : Option Files) (now : Kept) (done : Option Files) : Type 0 where
  pub read : List ℕ
  pub rest : List ℕ
  pub messages : List (List ℕ)
  pub parts : octets ≡ read ++ rest
  pub still : left ≡ Some rest
  pub framed : IsFramed read messages framer
  pub taken : Takes messages kept files now done

-- why a second reading of these octets ends early
abbrev pub IsSecondRefused : List ℕ → Kept → SplitFault → Type 0
IsSecondRefused octets kept (Read read.Read) = ⊤
IsSecondRefused octets kept (Read read.Turns) = ⊤
IsSecondRefused octets kept (Read read.Memory) = ⊥
IsSecondRefused octets kept (Wire fault) = ending (frames_of octets).1 ≡ Err fault
IsSecondRefused octets kept Limits = ⊥
IsSecondRefused octets kept Exists = ⊥
IsSecondRefused octets kept Changed = HasStranger (frames_of octets).0 kept
IsSecondRefused octets kept Write = ⊤
IsSecondRefused octets kept Memory = ⊥

-- why the writing of a capture's parts ends early, where its domains are right
abbrev pub IsWritingRefused : List ℕ → SplitFault → Type 0
IsWritingRefused octets (Read read.Read) = ⊤
IsWritingRefused octets (Read read.Turns) = ⊤
IsWritingRefused octets (Read read.Memory) = ⊥
IsWritingRefused octets (Wire fault) = ending (frames_of octets).1 ≡ Err fault
IsWritingRefused octets Limits = ⊥
IsWritingRefused octets Exists = ⊥
IsWritingRefused octets Changed = ⊥
IsWritingRefused octets Write = ⊤
IsWritingRefused octets Memory = ⊤
