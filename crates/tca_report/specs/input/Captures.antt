-- What an input is: a log export, or a capture of messages (RFC 7011) one after the other, as in a file of RFC 5655.
use Rattle.std.specs.Prelude.{◌≡◌, ℕ, false, List, [], ◌∷◌, length}
use Rattle.std.specs.List.{concat}
use Rattle.tca_wire.specs.Messages.{IsMessage}
use Rattle.tca_wire.specs.declared.message.Header.{Header}
use Rattle.tca_wire.specs.declared.message.SetSpan.{SetSpan}
use Rattle.tca_templates.specs.Records.{source_of}
use Rattle.tca_templates.specs.Reading.{ReadMessage}
use Rattle.tca_templates.specs.Sessions.{IsReading}
use Rattle.tca_report.specs.report.Reports.{PacketReport}
use Rattle.tca_report.specs.export.Spelling.{IsExport}
use Rattle.tca_report.specs.input.Inputs.{CaptureSoFar, InputView, nothing, with_message, is_export}

-- A message that is whole and is read in the session of those before it. Behind it come the others.
pub record IsRead (so_far : CaptureSoFar) (octets : List ℕ) (Others : CaptureSoFar → Type 0) : Type 0 where
  pub header : Header
  pub sets : List SetSpan
  pub given : ReadMessage
  pub message : IsMessage octets header sets
  pub whole : header.length ≡ length octets
  pub reading : IsReading so_far.templates (source_of so_far.session header) octets sets given
  pub others : Others (with_message so_far given)

-- Messages in their order, and what has come of the capture with them.
abbrev pub AreRead : CaptureSoFar → List (List ℕ) → CaptureSoFar → Type 0
AreRead so_far [] after = after ≡ so_far
AreRead so_far (m ∷ ms) after = IsRead so_far m (λ next. AreRead next ms after)

-- A capture: messages and nothing else, all of the session of this number, which knows no template at first.
pub record IsCapture (session : ℕ) (octets : List ℕ) (after : CaptureSoFar) : Type 0 where
  pub messages : List (List ℕ)
  pub whole : octets ≡ concat messages
  pub read : AreRead (nothing session) messages after

-- What an input holds: the octets of an export reports alone, those of a capture what its messages say in its session.
pub data IsInput (input : InputView) (after : CaptureSoFar) : Type 0 where
  AnExport : (rs : List PacketReport) → IsExport input.octets rs → after ≡ record (nothing input.session) { reports = rs } → IsInput input after
  ACapture : is_export input.octets ≡ false → IsCapture input.session input.octets after → IsInput input after
