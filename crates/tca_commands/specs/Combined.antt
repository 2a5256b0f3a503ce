-- What the command `combine` writes and prints, and what it is refused for.
use Rattle.std.specs.Prelude.{◌≡◌, List, length, Ok, Some}
use Rattle.tca_report.specs.report.Reports.{PacketReport}
use Rattle.tca_report.specs.export.Spelling.{export}
use Rattle.tca_report.specs.input.Inputs.{InputView}
use Rattle.tca_program.specs.Devices.{Device}
use Rattle.tca_program.specs.Outcomes.{AreCutOff, IsCommandRefused, Outlets, ReceiveBoth, outlets}
use Rattle.tca_commands.specs.Texts.{combine_text}
use Rattle.tca_program.specs.declared.fault.RunFault.{RunFault}
use Rattle.tca_program.specs.Unions.{IsUnion, IsUnitingRefused, united}

-- Each input is a log export or a capture; the export of the union of them all was written, and a line with the number of its
-- reports.
pub record IsCombineDone (inputs : List InputView) (old_export new_export old new : Device) : Type 0 where
  pub reports : List PacketReport
  pub union : IsUnion inputs reports
  pub written : ReceiveBoth (export reports) (combine_text (length reports)) (outlets (Some old_export) old) (outlets (Some new_export) new)

-- Of the export of the union only a part went out, and nothing of the line; or all of the export, and of the line only a part.
pub record IsCombineCutOff (inputs : List InputView) (old new : Outlets) : Type 0 where
  pub reports : List PacketReport
  pub union : IsUnion inputs reports
  pub taken : united inputs ≡ Ok reports
  pub part : AreCutOff (export reports) (combine_text (length reports)) old new

-- what a refusal is, and what it leaves of the devices
abbrev pub IsCombineRefused : List InputView → (old_export new_export old new : Device) → RunFault → Type 0
IsCombineRefused inputs old_export new_export old new =
    IsCommandRefused (IsUnitingRefused inputs) (IsCombineCutOff inputs) (outlets (Some old_export) old) (outlets (Some new_export) new)
