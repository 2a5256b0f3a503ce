-- What the inputs of a command hold beside reports.
use Rattle.std.specs.Prelude.{◌≡◌, List, [], ◌∷◌, Ok}
use Rattle.tca_report.specs.report.Reports.{PacketReport}
use Rattle.tca_report.specs.input.Inputs.{InputView, CaptureSoFar, read_input}
use Rattle.tca_report.specs.input.Gathered.{notes_of}
use Rattle.tca_report.specs.declared.input.Notes.{Notes}
use Rattle.tca_program.specs.Unions.{IsUnion, united}

-- These are the notes of an input, a log export or a capture.
pub record IsNoted (input : InputView) (notes : Notes) : Type 0 where
  pub so_far : CaptureSoFar
  pub read : read_input input ≡ Ok so_far
  pub notes_are : notes ≡ notes_of so_far

-- Each input has the notes beside it.
unfoldable pub AreNotes : List InputView → List Notes → Type 0
AreNotes [] [] = Unit {0}
AreNotes (input ∷ inputs) (notes ∷ others) = IsNoted input notes × AreNotes inputs others
AreNotes [] (notes ∷ others) = ⊥
AreNotes (input ∷ inputs) [] = ⊥

-- the inputs were united to these reports, and have these notes
pub record IsUniting (inputs : List InputView) (rs : List PacketReport) (notes : List Notes) : Type 0 where
  pub union : IsUnion inputs rs
  pub taken : united inputs ≡ Ok rs
  pub noted : AreNotes inputs notes
