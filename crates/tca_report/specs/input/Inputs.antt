-- What an input holds: a log export, or a capture, which is IPFIX messages one after the other (the layout of an IPFIX File of
-- RFC 5655).
use Rattle.std.specs.Prelude.{ℕ, ◌+◌, ◌==◌, Bool, ◌&&◌, if◌then◌else◌, nat_le, List, [], ◌∷◌, ◌++◌, length, take, map, Option, Some, None, Result, Ok, Err}
use Rattle.std.specs.List.{concat}
use Rattle.tca_join.specs.Results.{◌>>=◌}
use Rattle.tca_wire.specs.Messages.{message_of}
use Rattle.tca_wire.specs.Frames.{Framing, Holds, Failed, frames_of}
use Rattle.tca_wire.specs.declared.message.Header.{Header}
use Rattle.tca_wire.specs.declared.message.SetSpan.{SetSpan}
use Rattle.tca_wire.specs.declared.fault.WireFault.{WireFault}
use Rattle.tca_wire.specs.declared.fault.WireFault.TheVariants.{Short}
use Rattle.tca_templates.specs.Templates.{Templates}
use Rattle.tca_templates.specs.Records.{PlacedView, source_of}
use Rattle.tca_templates.specs.Reading.{ReadMessage, read_of}
use Rattle.tca_templates.specs.declared.fault.DecodeFault.{DecodeFault}
use Rattle.tca_report.specs.report.Reports.{PacketReport}
use Rattle.tca_report.specs.export.Reading.{has_magic, reading}
use Rattle.tca_report.specs.input.Extract.{extract_of}
use Rattle.tca_report.specs.Faults.{reason_number}
use Rattle.tca_report.specs.declared.export.ExportFault.{ExportFault}
use Rattle.tca_report.specs.declared.input.extraction.NotReport.{NotReport}
use Rattle.tca_report.specs.declared.input.Input.{Input}
use Rattle.tca_report.specs.declared.input.InputFault.{InputFault}
use Rattle.tca_report.specs.declared.input.InputFault.TheVariants.{Export, Wire, Decode}

-- The reports that these records make, in their order.
abbrev pub or_left_out : Result PacketReport NotReport → List PacketReport → List PacketReport
or_left_out (Ok r) others = r ∷ others
or_left_out (Err reason) others = others

abbrev pub reports_of : List PlacedView → List PacketReport
reports_of [] = []
reports_of (r ∷ rs) = or_left_out (extract_of r) (reports_of rs)

-- Why the others make none, in their order.
abbrev pub or_taken : Result PacketReport NotReport → List NotReport → List NotReport
or_taken (Ok r) others = others
or_taken (Err reason) others = reason ∷ others

abbrev pub reasons_of : List PlacedView → List NotReport
reasons_of [] = []
reasons_of (r ∷ rs) = or_taken (extract_of r) (reasons_of rs)

-- how often the reason of this number is among these
abbrev pub count_of_reason : ℕ → List NotReport → ℕ
count_of_reason n [] = 0
count_of_reason n (r ∷ rs) = (if reason_number r == n then 1 else 0) + count_of_reason n rs

-- how often each of the seven reasons is among these, by number
abbrev pub counts_of : List NotReport → List ℕ
counts_of reasons = map (λ n. count_of_reason n reasons) (1 ∷ (2 ∷ (3 ∷ (4 ∷ (5 ∷ (6 ∷ (7 ∷ [])))))))

-- An input as it is given: its octets, and the number of the transport session that its messages are of where it is a capture.
pub record InputView : Type 0 where
  pub session : ℕ
  pub octets : List ℕ

abbrev pub input_view : Input → InputView
input_view i = record { session = i.session; octets = i.octets.items }

-- What has come of a capture so far: the number of its session, the templates that are known, the reports, why other records make none, and how many
-- messages there were, how many with a data set of an unknown template, and how many skipped sets.
pub record CaptureSoFar : Type 0 where
  pub session : ℕ
  pub templates : Templates
  pub reports : List PacketReport
  pub reasons : List NotReport
  pub messages : ℕ
  pub unplaced_messages : ℕ
  pub skipped : ℕ

abbrev pub nothing : ℕ → CaptureSoFar
nothing session = record { session = session; templates = []; reports = []; reasons = []; messages = 0; unplaced_messages = 0; skipped = 0 }

abbrev pub one_if : Option ℕ → ℕ
one_if None = 0
one_if (Some id) = 1

-- with one message more
abbrev pub with_message : CaptureSoFar → ReadMessage → CaptureSoFar
with_message so_far given = record {
  session = so_far.session;
  templates = given.templates;
  reports = so_far.reports ++ reports_of given.records;
  reasons = so_far.reasons ++ reasons_of given.records;
  messages = so_far.messages + 1;
  unplaced_messages = so_far.unplaced_messages + one_if given.unplaced;
  skipped = so_far.skipped + given.skipped;
}

abbrev pub with_reading : ℕ → CaptureSoFar → Result ReadMessage DecodeFault → Result CaptureSoFar InputFault
with_reading at so_far (Ok given) = Ok (with_message so_far given)
with_reading at so_far (Err fault) = Err (Decode at fault)

abbrev pub with_split : ℕ → CaptureSoFar → List ℕ → Result (Header × List SetSpan) WireFault → Result CaptureSoFar InputFault
with_split at so_far octets (Ok x) = with_reading at so_far (read_of so_far.templates (source_of so_far.session x.0) (take x.0.length octets) x.1)
with_split at so_far octets (Err fault) = Err (Wire at fault)

-- the message that these octets are, at this offset of the capture
abbrev pub capture_with : ℕ → CaptureSoFar → List ℕ → Result CaptureSoFar InputFault
capture_with at so_far octets = with_split at so_far octets (message_of octets)

-- The messages in their order; the first of them with a fault decides.
unfoldable pub capture_after : ℕ → CaptureSoFar → List (List ℕ) → Result CaptureSoFar InputFault
capture_after at so_far [] = Ok so_far
capture_after at so_far (m ∷ ms) = capture_with at so_far m >>= (λ next. capture_after (at + length m) next ms)

-- what stands behind the last message: nothing, part of a message, or a header with a fault
abbrev pub ended : ℕ → Framing → CaptureSoFar → Result CaptureSoFar InputFault
ended at (Holds []) so_far = Ok so_far
ended at (Holds (b ∷ bs)) so_far = Err (Wire at Short)
ended at (Failed fault) so_far = Err (Wire at fault)

-- A capture: all its messages in the session of this number, with one map of templates, empty at first, or the first fault from the left.
abbrev pub capture_of : ℕ → List ℕ → Result CaptureSoFar InputFault
capture_of session octets = capture_after 0 (nothing session) (frames_of octets).0 >>= ended (length (concat (frames_of octets).0)) (frames_of octets).1

-- whether there are four octets or more, the first four of which are TCAX
abbrev pub is_export : List ℕ → Bool
is_export octets = nat_le 4 (length octets) && has_magic octets

-- the reports of a log export, which has no notes; the session says nothing of it
abbrev pub exported : ℕ → Result (List PacketReport) ExportFault → Result CaptureSoFar InputFault
exported session (Ok rs) = Ok (record (nothing session) { reports = rs })
exported session (Err fault) = Err (Export fault)

-- An input is a log export where its first four octets are TCAX, else a capture.
abbrev pub read_input : InputView → Result CaptureSoFar InputFault
read_input input = if is_export input.octets then exported input.session (reading input.octets) else capture_of input.session input.octets
