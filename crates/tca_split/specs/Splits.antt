-- What splitting a capture writes, and what it is refused for.
use Rattle.std.specs.Prelude.{◌≡◌, ◌≢◌, ◌⊎◌, ℕ, Bool, true, if◌then◌else◌, List, ◌++◌, length, Option, Some, None, Err}
use Rattle.tca_wire.specs.Frames.{frames_of}
use Rattle.tca_report.specs.declared.device.octets.ReadFault.TheVariants as read
use Rattle.tca_split.specs.Parts.{domains_of, part_of}
use Rattle.tca_split.specs.Surveys.{is_among, surveyed, IsRight, as_u64}
use Rattle.tca_split.specs.Folders.{Files}
use Rattle.tca_split.specs.declared.fault.SplitFault.{SplitFault}
use Rattle.tca_split.specs.declared.fault.SplitFault.TheVariants.{Read, Wire, Limits, Exists, Changed, Write, Memory}
use Rattle.tca_split.specs.declared.splitting.Parts.{Parts}

-- whether a capture has a message of this domain
abbrev pub has_part : List ℕ → ℕ → Bool
has_part octets domain = is_among domain (domains_of (frames_of octets).0)

-- there is no file of a domain of the capture
abbrev pub IsFree : List ℕ → Files → Type 0
IsFree octets files = (domain : ℕ) → has_part octets domain ≡ true → files domain ≡ None

-- Nothing refuses the capture: its framing has no fault, its domains are few enough, and no file of them is there, where the files are known.
abbrev pub IsReady : List ℕ → Option Files → Type 0
IsReady octets before = IsRight octets × ((files : Files) → before ≡ Some files → IsFree octets files)

-- The domain's file holds its messages, where there are some; else it is as it was.
abbrev pub split_file : List ℕ → Files → ℕ → Option (List ℕ)
split_file octets files domain = if has_part octets domain then Some (part_of domain octets) else files domain

-- each file is as splitting leaves it
abbrev pub AreSplit : List ℕ → Files → Option Files → Type 0
AreSplit octets before after = (files : Files) × (after ≡ Some files) × ((domain : ℕ) → files domain ≡ split_file octets before domain)

-- The capture is split: for each domain of a message there was no file, and now there is one with just the domain's messages, in their
-- order. No other file has changed.
pub record IsSplit (octets : List ℕ) (before : Files) (after : Option Files) (parts : Parts) : Type 0 where
  pub right : IsRight octets
  pub domains : parts.domains ≡ length (domains_of (frames_of octets).0)
  pub messages : parts.messages ≡ as_u64 (length (frames_of octets).0)
  pub free : IsFree octets before
  pub written : AreSplit octets before after

-- A file where the writing stopped: as it was, or made for a domain of the capture, with octets from the front of the domain's part.
abbrev pub IsBegun : List ℕ → ℕ → Option (List ℕ) → Option (List ℕ) → Type 0
IsBegun octets domain before now =
    (now ≡ before) ⊎ ((has_part octets domain ≡ true) × (before ≡ None) × (front : List ℕ) × (rest : List ℕ) × (now ≡ Some front) × (part_of domain octets ≡ front ++ rest))

-- each file is as it was or begun
abbrev pub AreBegun : List ℕ → Files → Option Files → Type 0
AreBegun octets before after = (files : Files) × (after ≡ Some files) × ((domain : ℕ) → IsBegun octets domain (before domain) (files domain))

-- The framing was right and no file was there, so the files were begun, where the writing came to that.
pub record IsStopped (octets : List ℕ) (before : Files) (after : Option Files) : Type 0 where
  pub right : IsRight octets
  pub free : IsFree octets before
  pub begun : AreBegun octets before after

-- A file of a domain's name was there. So nothing was made.
pub record IsTaken (octets : List ℕ) (before : Files) (after : Option Files) : Type 0 where
  pub right : IsRight octets
  pub domain : ℕ
  pub own : has_part octets domain ≡ true
  pub there : before domain ≢ None
  pub untouched : after ≡ Some before

-- Why a capture isn't split, where both readings tell its octets, and what is left of the files.
abbrev pub IsRefused : List ℕ → Files → Option Files → SplitFault → Type 0
IsRefused octets before after (Read read.Read) = (after ≡ Some before) ⊎ IsStopped octets before after
IsRefused octets before after (Read read.Turns) = (after ≡ Some before) ⊎ IsStopped octets before after
IsRefused octets before after (Read read.Memory) = ⊥
IsRefused octets before after (Wire fault) = (surveyed octets ≡ Err (Wire fault)) × (after ≡ Some before)
IsRefused octets before after Limits = (surveyed octets ≡ Err Limits) × (after ≡ Some before)
IsRefused octets before after Exists = IsTaken octets before after
IsRefused octets before after Changed = ⊥
IsRefused octets before after Write = IsRight octets × ((after ≡ Some before) ⊎ IsStopped octets before after)
IsRefused octets before after Memory = after ≡ Some before
