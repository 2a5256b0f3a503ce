-- How a command ends that takes all memory before its first write: all that was due went out, or it was refused.
use Rattle.std.specs.Prelude.{◌≡◌, ◌⊎◌, ℕ, true, false, List, Option}
use Rattle.tca_program.specs.declared.fault.RunFault.{RunFault}
use Rattle.tca_program.specs.Devices.{Device, IsCutOff, IsCutOffIfGiven, Receives, ReceivesIfGiven}
use Rattle.tca_program.specs.Unions.{is_write, write_refusal}

-- the devices of a command that writes an export, where one was asked, and then a text
pub record Outlets : Type 0 where
  pub export : Option Device
  pub out : Device

abbrev pub outlets : Option Device → Device → Outlets
outlets export out = record { export = export; out = out }

-- all of the export went out, where it was asked, and then all of the text
pub record ReceiveBoth (export text : List ℕ) (old new : Outlets) : Type 0 where
  pub exported : ReceivesIfGiven export old.export new.export
  pub written : Receives text old.out new.out

-- A write failed: of the export, where it was asked, only a part went out, and nothing of the text; or all of the export, where it was
-- asked, and of the text only a part.
abbrev pub AreCutOff : List ℕ → List ℕ → Outlets → Outlets → Type 0
AreCutOff export text old new =
    (IsCutOffIfGiven export old.export new.export × (new.out ≡ old.out))
    ⊎ (ReceivesIfGiven export old.export new.export × IsCutOff text old.out new.out)

-- What a refusal of a command is, and what it leaves of the device or the devices that it writes to. Where no write failed there is a
-- reason why nothing was due, and they are as they were; where one failed, only a part of what was due went out.
pub record IsCommandRefused {D : Type 0} (Unmade : RunFault → Type 0) (InPart : D → D → Type 0) (old new : D) (e : RunFault) : Type 0 where
  pub unmade : is_write e ≡ false → Unmade e
  pub untouched : is_write e ≡ false → new ≡ old
  pub fault : is_write e ≡ true → e ≡ write_refusal
  pub in_part : is_write e ≡ true → InPart old new
