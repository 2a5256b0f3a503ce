-- What a command that tells of a statement writes, and what it is refused for.
use Rattle.std.specs.Prelude.{◌≡◌, ◌⊎◌, ℕ, List, Some}
use Rattle.tca_figures.specs.Faults.{statement_number}
use Rattle.tca_figures.specs.Figures.{Stated}
use Rattle.tca_figures.specs.Lines.{IsTextOf}
use Rattle.tca_figures.specs.Reading.{IsFirstFault}
use Rattle.tca_figures.specs.declared.fault.StatementFault.{StatementFault}
use Rattle.tca_program.specs.Devices.{Device, IsCutOff, Receives}
use Rattle.tca_program.specs.Outcomes.{IsCommandRefused}
use Rattle.tca_program.specs.Unions.{memory_refusal, refusal}
use Rattle.tca_program.specs.declared.fault.Family.TheVariants as family
use Rattle.tca_program.specs.declared.fault.RunFault.{RunFault}

-- the refusal of a statement, which is the word of this number behind the command's, by its fault
abbrev pub statement_refusal : ℕ → StatementFault → RunFault
statement_refusal number fault = refusal (Some number) family.Statement (statement_number fault)

-- the octets of this number are no statement, or memory was wanted as they were read; the refusal is that of their first fault
pub record IsUnread (number : ℕ) (octets : List ℕ) (e : RunFault) : Type 0 where
  pub fault : StatementFault
  pub first : IsFirstFault octets fault
  pub is : e ≡ statement_refusal number fault

-- the octets are those of a statement, and a text of it went out
pub record IsTold (text : Stated → List ℕ → Type 0) (octets : List ℕ) (old new : Device) : Type 0 where
  pub stated : Stated
  pub read : IsTextOf octets stated
  pub told : List ℕ
  pub is : text stated told
  pub written : Receives told old new

-- the octets are those of a statement, and no memory was left for a text of it
pub record IsTooLarge (octets : List ℕ) (e : RunFault) : Type 0 where
  pub stated : Stated
  pub read : IsTextOf octets stated
  pub is : e ≡ memory_refusal

-- the octets are those of a statement, and of a text of it only a part went out
pub record IsToldInPart (text : Stated → List ℕ → Type 0) (octets : List ℕ) (old new : Device) : Type 0 where
  pub stated : Stated
  pub read : IsTextOf octets stated
  pub told : List ℕ
  pub text_is : text stated told
  pub part : IsCutOff told old new

-- why there is no text to write
abbrev pub HasNoText : List ℕ → RunFault → Type 0
HasNoText octets e = IsUnread 0 octets e ⊎ IsTooLarge octets e

-- what a refusal is, and what it leaves of the device
abbrev pub IsUntold : (Stated → List ℕ → Type 0) → List ℕ → Device → Device → RunFault → Type 0
IsUntold text octets = IsCommandRefused (HasNoText octets) (IsToldInPart text octets)

-- any text at all
abbrev pub IsAnyText : Stated → List ℕ → Type 0
IsAnyText s text = Unit {0}
