-- What has come of a first reading so far. Cited inside this crate alone.
use Rattle.std.specs.Prelude.{◌≡◌, ◌≤◌, ◌<◌, ℕ, ⊤, List, length, Err}
use Rattle.std.specs.BTreeSet.{contains}
use Rattle.std.specs.Ordering.{nat_cmp}
use Rattle.tca_wire.specs.Frames.{Framing, Holds, IsStream}
use Rattle.tca_report.specs.declared.device.octets.ReadFault.TheVariants as read
use Rattle.tca_split.specs.Parts.{domains_of}
use Rattle.tca_split.specs.Surveys.{most_domains, is_among, surveyed, as_u64}
use Rattle.tca_split.specs.declared.survey.Survey.{Survey}
use Rattle.tca_split.specs.declared.fault.SplitFault.{SplitFault}
use Rattle.tca_split.specs.declared.fault.SplitFault.TheVariants.{Read, Wire, Limits, Exists, Changed, Write, Memory}

-- the survey of these messages, whose domains are few enough
pub record Surveys (messages : List (List ℕ)) (s : Survey) : Type 0 where
  pub domains : s.domains.items ≡ domains_of messages
  pub known : (d : ℕ) → contains nat_cmp s.known d ≡ is_among d (domains_of messages)
  pub few : length (domains_of messages) ≤ most_domains
  pub count : s.messages ≡ as_u64 (length messages)

-- The octets so far are these messages and less than one more, which the framer holds.
pub record IsFramed (octets : List ℕ) (messages : List (List ℕ)) (framer : Framing) : Type 0 where
  pub held : List ℕ
  pub stream : IsStream octets messages (Holds held)
  pub holds : framer ≡ Holds held

-- why messages aren't surveyed: they are of too many domains, or there was no memory
abbrev pub AreTooMany : List (List ℕ) → SplitFault → Type 0
AreTooMany messages (Read fault) = ⊥
AreTooMany messages (Wire fault) = ⊥
AreTooMany messages Limits = most_domains < length (domains_of messages)
AreTooMany messages Exists = ⊥
AreTooMany messages Changed = ⊥
AreTooMany messages Write = ⊥
AreTooMany messages Memory = ⊤

-- why a first reading of these octets ends early
abbrev pub IsFirstRefused : List ℕ → SplitFault → Type 0
IsFirstRefused octets (Read read.Read) = ⊤
IsFirstRefused octets (Read read.Turns) = ⊤
IsFirstRefused octets (Read read.Memory) = ⊥
IsFirstRefused octets (Wire fault) = surveyed octets ≡ Err (Wire fault)
IsFirstRefused octets Limits = surveyed octets ≡ Err Limits
IsFirstRefused octets Exists = ⊥
IsFirstRefused octets Changed = ⊥
IsFirstRefused octets Write = ⊥
IsFirstRefused octets Memory = ⊤

-- a fault of the octets, or want of memory
abbrev pub IsOfFraming : SplitFault → Type 0
IsOfFraming (Read fault) = ⊥
IsOfFraming (Wire fault) = ⊤
IsOfFraming Limits = ⊤
IsOfFraming Exists = ⊥
IsOfFraming Changed = ⊥
IsOfFraming Write = ⊥
IsOfFraming Memory = ⊤

-- that, or a reading that failed or didn't end
abbrev pub IsOfReading : SplitFault → Type 0
IsOfReading (Read read.Read) = ⊤
IsOfReading (Read read.Turns) = ⊤
IsOfReading (Read read.Memory) = ⊥
IsOfReading (Wire fault) = ⊤
IsOfReading Limits = ⊤
IsOfReading Exists = ⊥
IsOfReading Changed = ⊥
IsOfReading Write = ⊥
IsOfReading Memory = ⊤
