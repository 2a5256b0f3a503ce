-- What has come of a capture so far, as its reader holds it. Cited inside this crate alone.
use Rattle.std.specs.Prelude.{◌≡◌, ◌≢◌, ◌≤◌, ℕ, List, ◌∷◌, ◌++◌, length, Result, Ok, Err}
use Rattle.std.specs.List.{concat, AllByRecursion}
use Rattle.tca_wire.specs.Frames.{IsFrame, Framing, Holds, IsStream, Feeds, fault_of, frames_of_both}
use Rattle.tca_wire.specs.declared.framer.Lent.{Lent}
use Rattle.tca_report.specs.input.Inputs.{CaptureSoFar, nothing, capture_after}
use Rattle.tca_report.specs.input.Wants.{IsWantedFor}
use Rattle.tca_report.specs.input.Gathered.{notes_of}
use Rattle.tca_report.specs.declared.input.InputFault.{InputFault}
use Rattle.tca_report.specs.declared.input.InputFault.TheVariants.{Memory}
use Rattle.tca_report.specs.declared.input.capture.CaptureReader.{CaptureReader}
use Rattle.tca_report.specs.declared.input.Notes.{Notes}

-- the notes of the messages so far
abbrev pub noted : CaptureReader → Notes
noted r = record { messages = r.messages; not_reports = r.taken.not_reports; unplaced = r.unplaced; skipped = r.skipped }

-- The reader holds what has come of the capture so far. Nothing was noted more often than there are octets.
pub record Agrees (r : CaptureReader) (so_far : CaptureSoFar) : Type 0 where
  pub session : r.decoder.number ≡ so_far.session
  pub templates : r.decoder.templates ≡ so_far.templates
  pub reports : r.taken.reports.items ≡ so_far.reports
  pub notes : noted r ≡ notes_of so_far
  pub messages : so_far.messages ≤ r.at
  pub reasons : length so_far.reasons ≤ r.at
  pub unplaced_messages : so_far.unplaced_messages ≤ r.at
  pub skipped : so_far.skipped ≤ r.at

-- The reader holds what is given, or the refusal is what is given, unless memory ran out.
abbrev pub ReaderGives : Result CaptureReader InputFault → Result CaptureSoFar InputFault → Type 0
ReaderGives (Ok r) given = (so_far : CaptureSoFar) × (given ≡ Ok so_far) × Agrees r so_far
ReaderGives (Err fault) given = fault ≢ Memory → given ≡ Err fault

-- The octets so far are messages, which were read, and less than one more, which the framer has.
pub record HasRead (session : ℕ) (octets : List ℕ) (framer : Framing) (r : CaptureReader) : Type 0 where
  pub messages : List (List ℕ)
  pub held : List ℕ
  pub so_far : CaptureSoFar
  pub stream : IsStream octets messages (Holds held)
  pub holds : framer ≡ Holds held
  pub read : capture_after 0 (nothing session) messages ≡ Ok so_far
  pub agrees : Agrees r so_far
  pub at : r.at ≡ length (concat messages)

-- A piece behind the octets so far brings these messages and the fault behind them, and the framer is then as after.
pub record Brings (session : ℕ) (octets piece : List ℕ) (r : CaptureReader) (lent : Lent) (after : Framing) : Type 0 where
  pub framer : Framing
  pub read : HasRead session octets framer r
  pub feeds : Feeds framer piece (frames_of_both lent.begun.items lent.whole.now) after
  pub fault : lent.fault ≡ fault_of after

-- The octets are messages, which were read, and a rest, at which the reader stands.
pub record StandsIn (session : ℕ) (octets : List ℕ) (r : CaptureReader) : Type 0 where
  pub messages : List (List ℕ)
  pub rest : List ℕ
  pub so_far : CaptureSoFar
  pub whole : octets ≡ concat messages ++ rest
  pub each : AllByRecursion IsFrame messages
  pub read : capture_after 0 (nothing session) messages ≡ Ok so_far
  pub agrees : Agrees r so_far
  pub at : r.at ≡ length (concat messages)

-- Memory is wanted for one of these messages, the first of which has this offset, and those before it were read.
pub record IsWantedAmong (at : ℕ) (so_far : CaptureSoFar) (messages : List (List ℕ)) : Type 0 where
  pub before : List (List ℕ)
  pub message : List ℕ
  pub others : List (List ℕ)
  pub now : CaptureSoFar
  pub whole : messages ≡ before ++ message ∷ others
  pub read : capture_after at so_far before ≡ Ok now
  pub wanted : IsWantedFor now message
