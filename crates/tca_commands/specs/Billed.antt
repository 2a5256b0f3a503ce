-- What the command `bill` writes, and what it is refused for.
use Rattle.std.specs.Prelude.{◌≡◌, ℕ, List, Option, Ok}
use Rattle.tca_report.specs.report.Reports.{PacketReport}
use Rattle.tca_report.specs.export.Spelling.{export}
use Rattle.tca_report.specs.declared.input.Notes.{Notes}
use Rattle.tca_accounts.specs.Plans.{AccountPlan}
use Rattle.tca_statements.specs.Statements.{statement_under}
use Rattle.tca_report.specs.input.Inputs.{InputView}
use Rattle.tca_program.specs.declared.fault.RunFault.{RunFault}
use Rattle.tca_program.specs.Devices.{Device}
use Rattle.tca_program.specs.Outcomes.{AreCutOff, IsCommandRefused, Outlets, ReceiveBoth, outlets}
use Rattle.tca_program.specs.Unions.{IsUnion, united}
use Rattle.tca_program.specs.Planned.{IsPlannedRefused}
use Rattle.tca_program.specs.Noted.{AreNotes}
use Rattle.tca_accounts.specs.Documents.{IsPlanOf}

-- The text is a plan, and each input a log export or a capture; where it was asked the export of the union of them all was written,
-- and then the statement of that union under the plan; and these are the inputs' notes.
pub record IsBillDone (plan : List ℕ) (inputs : List InputView) (old_export new_export : Option Device) (old new : Device) (notes : List Notes) : Type 0 where
  pub under : AccountPlan
  pub named : IsPlanOf plan under
  pub reports : List PacketReport
  pub union : IsUnion inputs reports
  pub written : ReceiveBoth (export reports) (statement_under under reports) (outlets old_export old) (outlets new_export new)
  pub noted : AreNotes inputs notes

-- Of the export, where it was asked, only a part went out, and nothing of the statement; or all of the export where it was asked, and of
-- the statement only a part.
pub record IsBillCutOff (plan : List ℕ) (inputs : List InputView) (old new : Outlets) : Type 0 where
  pub under : AccountPlan
  pub named : IsPlanOf plan under
  pub reports : List PacketReport
  pub union : IsUnion inputs reports
  pub part : AreCutOff (export reports) (statement_under under reports) old new

-- the same of inputs that were united one by one, none of which has a fault
abbrev pub IsPlainCutOff : List ℕ → List InputView → Outlets → Outlets → Type 0
IsPlainCutOff plan inputs old new = (c : IsBillCutOff plan inputs old new) × (united inputs ≡ Ok c.reports)

-- what a refusal is, and what it leaves of the devices
abbrev pub IsBillRefused : List ℕ → List InputView → (old_export new_export : Option Device) → (old new : Device) → RunFault → Type 0
IsBillRefused plan inputs old_export new_export old new =
    IsCommandRefused (IsPlannedRefused plan inputs) (IsPlainCutOff plan inputs) (outlets old_export old) (outlets new_export new)
