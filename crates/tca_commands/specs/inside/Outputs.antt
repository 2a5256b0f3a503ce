-- How what was prepared of a bill goes out.
use Rattle.std.specs.Prelude.{◌≡◌, List, Result, Ok, Err}
use Rattle.tca_report.specs.export.Spelling.{export}
use Rattle.tca_report.specs.declared.input.Notes.{Notes}
use Rattle.tca_program.specs.declared.fault.RunFault.{RunFault}
use Rattle.tca_program.specs.Outcomes.{AreCutOff, IsCommandRefused, Outlets, ReceiveBoth}
use Rattle.tca_commands.specs.declared.bill.Prepared.{Prepared}

-- where it was asked the export went out, and then the statement; and these are the notes
pub record IsPut (made : Result Prepared RunFault) (old new : Outlets) (notes : List Notes) : Type 0 where
  pub prepared : Prepared
  pub is : made ≡ Ok prepared
  pub written : ReceiveBoth (export prepared.reports.items) prepared.statement old new
  pub noted : notes ≡ prepared.notes.items

-- of the export, where it was asked, only a part went out, and nothing of the statement; or of the statement only a part
pub record IsPutInPart (made : Result Prepared RunFault) (old new : Outlets) : Type 0 where
  pub prepared : Prepared
  pub is : made ≡ Ok prepared
  pub part : AreCutOff (export prepared.reports.items) prepared.statement old new

-- a refusal: that of what was to be prepared, or of a write
abbrev pub IsUnput : Result Prepared RunFault → Outlets → Outlets → RunFault → Type 0
IsUnput made = IsCommandRefused (λ e. made ≡ Err e) (IsPutInPart made)
