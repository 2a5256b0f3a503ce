-- What the command `split` writes and prints, and what it is refused for.
use Rattle.std.specs.Prelude.{◌≡◌, ◌⊎◌, ℕ, List, ◌++◌, codes, Option, Some}
use Rattle.std.specs.Fmt.{decimal}
use Rattle.tca_wire.specs.Faults.{wire_number}
use Rattle.tca_report.specs.Faults.{read_number}
use Rattle.tca_split.specs.Failures.{CountsWriteFault}
use Rattle.tca_split.specs.Folders.{Files}
use Rattle.tca_split.specs.Splits.{IsRefused, IsSplit}
use Rattle.tca_split.specs.declared.fault.SplitFault.{SplitFault}
use Rattle.tca_split.specs.declared.fault.SplitFault.TheVariants.{Read, Wire, Limits, Exists, Changed, Write, Memory}
use Rattle.tca_split.specs.declared.splitting.Parts.{Parts}
use Rattle.tca_program.specs.declared.fault.RunFault.{RunFault}
use Rattle.tca_program.specs.declared.fault.Family.TheVariants as family
use Rattle.tca_program.specs.Devices.{Device, IsCutOff, Receives}
use Rattle.tca_program.specs.Unions.{memory_refusal, refusal, write_refusal}

-- The refusal by a fault of splitting: the capture, which is input 0, is blamed for what it holds and for how it is read. A capture that
-- changed is one that can't be read.
abbrev pub split_refusal : SplitFault → RunFault
split_refusal (Read fault) = refusal (Some 0) family.Read (read_number fault)
split_refusal (Wire fault) = refusal (Some 0) family.Wire (wire_number fault)
split_refusal Limits = refusal (Some 0) family.Limits 1
split_refusal Exists = write_refusal
split_refusal Changed = refusal (Some 0) family.Read 1
split_refusal Write = write_refusal
split_refusal Memory = memory_refusal

-- what is printed of a split capture: how many observation domains and messages it has
abbrev pub parts_text : Parts → List ℕ
parts_text parts = codes "domains " ++ (decimal parts.domains ++ (codes "\nmessages " ++ (decimal parts.messages ++ codes "\n")))

-- a folder as it stands: its files, where they are known, and how many of its calls have failed
pub record Place : Type 0 where
  pub files : Option Files
  pub failures : ℕ

-- a folder of a type as such a place
abbrev pub place : {F : Type 0} → (F → Option Files) → (F → ℕ) → F → Place
place files failures f = record { files = files f; failures = failures f }

-- the octets that the first reading of a capture has left, and those that the second has, where they are known
pub record Readings : Type 0 where
  pub first : Option (List ℕ)
  pub second : Option (List ℕ)

-- where both readings tell the same octets, and the folder's files are known, this holds of them
abbrev pub WhereKnown : Readings → Place → (List ℕ → Files → Type 0) → Type 0
WhereKnown readings before Holds =
    (octets : List ℕ) (files : Files) → readings.first ≡ Some octets → readings.second ≡ Some octets → before.files ≡ Some files → Holds octets files

-- The capture was split, no call of the folder failed, and how many domains and messages there are was printed.
pub record IsSplitDone (readings : Readings) (before after : Place) (old new : Device) : Type 0 where
  pub parts : Parts
  pub split : WhereKnown readings before (λ octets files. IsSplit octets files after.files parts)
  pub calm : after.failures ≡ before.failures
  pub printed : Receives (parts_text parts) old new

-- The capture wasn't split, and nothing was printed. The folder's count of failures rises just where a file couldn't be looked for, made or
-- written.
pub record IsUnsplit (readings : Readings) (before after : Place) (old new : Device) (e : RunFault) : Type 0 where
  pub fault : SplitFault
  pub told : e ≡ split_refusal fault
  pub why : WhereKnown readings before (λ octets files. IsRefused octets files after.files fault)
  pub count : CountsWriteFault fault before.failures after.failures
  pub unprinted : new ≡ old

-- The capture was split, but a write of what is printed failed, and only a part of it went out.
pub record IsSplitCutOff (readings : Readings) (before after : Place) (old new : Device) (e : RunFault) : Type 0 where
  pub fault : e ≡ write_refusal
  pub parts : Parts
  pub split : WhereKnown readings before (λ octets files. IsSplit octets files after.files parts)
  pub calm : after.failures ≡ before.failures
  pub part : IsCutOff (parts_text parts) old new

-- what a refusal is, and what it leaves of the folder and of the device
abbrev pub IsSplitRefused : Readings → Place → Place → Device → Device → RunFault → Type 0
IsSplitRefused readings before after old new e =
    IsUnsplit readings before after old new e ⊎ IsSplitCutOff readings before after old new e

-- Over files, of which no octets are known: how many domains and messages a capture has was printed.
pub record IsPartsPrinted (old new : Device) : Type 0 where
  pub parts : Parts
  pub printed : Receives (parts_text parts) old new

-- a fault of splitting was told, and nothing was printed
pub record IsFaultTold (old new : Device) (e : RunFault) : Type 0 where
  pub fault : SplitFault
  pub told : e ≡ split_refusal fault
  pub unprinted : new ≡ old

-- a write of what is printed failed, and only a part of it went out
pub record IsPrintCutOff (old new : Device) (e : RunFault) : Type 0 where
  pub fault : e ≡ write_refusal
  pub parts : Parts
  pub part : IsCutOff (parts_text parts) old new

-- a refusal over files is one of the two
abbrev pub IsFilesRefused : Device → Device → RunFault → Type 0
IsFilesRefused old new e = IsFaultTold old new e ⊎ IsPrintCutOff old new e
