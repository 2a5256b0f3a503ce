-- Inputs with a fault, and the fault that is the first from the left.
use Rattle.std.specs.Prelude.{◌≡◌, ℕ, ◌<◌, true, false, List, ◌++◌, length, take}
use Rattle.std.specs.List.{concat}
use Rattle.tca_wire.specs.Messages.{IsMessage}
use Rattle.tca_wire.specs.FirstFaults as wire
use Rattle.tca_wire.specs.declared.message.Header.{Header}
use Rattle.tca_wire.specs.declared.message.SetSpan.{SetSpan}
use Rattle.tca_wire.specs.declared.fault.WireFault.{WireFault}
use Rattle.tca_templates.specs.Records.{source_of}
use Rattle.tca_templates.specs.FirstFaults as templates
use Rattle.tca_templates.specs.declared.fault.DecodeFault.{DecodeFault}
use Rattle.tca_report.specs.export.FirstFaults.{IsFaultyExport}
use Rattle.tca_report.specs.input.Inputs.{CaptureSoFar, InputView, nothing, is_export}
use Rattle.tca_report.specs.input.Captures.{AreRead}
use Rattle.tca_report.specs.declared.export.ExportFault.{ExportFault}
use Rattle.tca_report.specs.declared.input.InputFault.{InputFault}
use Rattle.tca_report.specs.declared.input.InputFault.TheVariants.{Export, Wire, Decode}

-- The octets behind the messages of a capture, at this offset of it, when this has come of it: there are some, and they begin with
-- no message, or with a message that is wrong in its session.
pub data IsFaultyMessage (so_far : CaptureSoFar) (at : ℕ) (octets : List ℕ) (fault : InputFault) : Type 0 where
  NoMessage : 0 < length octets → (f : WireFault) → wire.IsFirstFault octets f → fault ≡ Wire at f → IsFaultyMessage so_far at octets fault
  WrongMessage : (header : Header) → (sets : List SetSpan) → IsMessage octets header sets → (f : DecodeFault)
      → templates.IsFirstFault so_far.templates (source_of so_far.session header) (take header.length octets) sets f → fault ≡ Decode at f → IsFaultyMessage so_far at octets fault

-- A capture: messages of the session of this number, which knows no template at first, and behind them the first that is wrong.
pub record IsFaultyCapture (session : ℕ) (octets : List ℕ) (fault : InputFault) : Type 0 where
  pub messages : List (List ℕ)
  pub rest : List ℕ
  pub so_far : CaptureSoFar
  pub whole : octets ≡ concat messages ++ rest
  pub before : AreRead (nothing session) messages so_far
  pub wrong : IsFaultyMessage so_far (length (concat messages)) rest fault

-- The first fault of an input.
pub data IsFirstFault (input : InputView) (fault : InputFault) : Type 0 where
  AnExport : is_export input.octets ≡ true → (f : ExportFault) → IsFaultyExport input.octets f → fault ≡ Export f → IsFirstFault input fault
  ACapture : is_export input.octets ≡ false → IsFaultyCapture input.session input.octets fault → IsFirstFault input fault
