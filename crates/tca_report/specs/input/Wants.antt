-- Where memory is wanted for an input: all that stands before is right.
use Rattle.std.specs.Prelude.{◌≡◌, ℕ, ◌<◌, true, false, List, ◌++◌, length, take}
use Rattle.std.specs.List.{concat}
use Rattle.tca_wire.specs.Messages.{IsMessage}
use Rattle.tca_wire.specs.declared.message.Header.{Header}
use Rattle.tca_wire.specs.declared.message.SetSpan.{SetSpan}
use Rattle.tca_templates.specs.Records.{source_of}
use Rattle.tca_templates.specs.Wants as templates
use Rattle.tca_report.specs.report.Reports.{PacketReport}
use Rattle.tca_report.specs.export.Spelling.{IsExport}
use Rattle.tca_report.specs.input.Inputs.{CaptureSoFar, InputView, nothing, is_export}
use Rattle.tca_report.specs.input.Captures.{AreRead}

-- The octets behind the messages of a capture, when this has come of it: they begin with a message. Memory is wanted for the list of its
-- sets, where it has one, or for a template or a record, which is right in the session as all in front of it is.
pub data IsWantedFor (so_far : CaptureSoFar) (octets : List ℕ) : Type 0 where
  TheSets : (header : Header) → (sets : List SetSpan) → IsMessage octets header sets → 0 < length sets → IsWantedFor so_far octets
  ARecord : (header : Header) → (sets : List SetSpan) → IsMessage octets header sets
      → templates.WantsMemory so_far.templates (source_of so_far.session header) (take header.length octets) sets → IsWantedFor so_far octets

-- A capture: messages of the session of this number, which knows no template at first, and behind them the one that memory is wanted for.
pub record IsWantedInCapture (session : ℕ) (octets : List ℕ) : Type 0 where
  pub messages : List (List ℕ)
  pub rest : List ℕ
  pub so_far : CaptureSoFar
  pub whole : octets ≡ concat messages ++ rest
  pub before : AreRead (nothing session) messages so_far
  pub wanted : IsWantedFor so_far rest

-- An input: the octets of an export, for the list of its reports, where it has one, or else a capture.
pub data WantsMemory (input : InputView) : Type 0 where
  AnExport : is_export input.octets ≡ true → (rs : List PacketReport) → IsExport input.octets rs → 0 < length rs → WantsMemory input
  ACapture : is_export input.octets ≡ false → IsWantedInCapture input.session input.octets → WantsMemory input
