-- What a command is refused for where a file of it can't be read.
use Rattle.std.specs.Prelude.{◌≡◌, ◌⊎◌, ◌<◌, ℕ, Option, Some}
use Rattle.tca_report.specs.Faults.{read_number}
use Rattle.tca_report.specs.declared.device.octets.ReadFault.{ReadFault}
use Rattle.tca_program.specs.declared.fault.RunFault.{RunFault}
use Rattle.tca_program.specs.declared.fault.Family.TheVariants as family
use Rattle.tca_program.specs.Unions.{memory_refusal, refusal}

-- the refusal of a file that can't be opened or read: that of an input with its number, or of a plan, which is no input
abbrev pub IsFileRefused : Option ℕ → RunFault → Type 0
IsFileRefused input e = (fault : ReadFault) × (e ≡ refusal input family.Read (read_number fault))

-- the refusal of so many inputs: for one of them whose file can't be opened or read, or for want of memory
abbrev pub IsReadRefused : ℕ → RunFault → Type 0
IsReadRefused count e = (e ≡ memory_refusal) ⊎ ((n : ℕ) × (n < count) × IsFileRefused (Some n) e)
