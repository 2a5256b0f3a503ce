-- What `gather` gives, as the definitions see it.
use Rattle.std.specs.Prelude.{List, Result, Ok, Err}
use Rattle.tca_report.specs.report.Reports.{PacketReport}
use Rattle.tca_report.specs.input.Inputs.{CaptureSoFar, counts_of}
use Rattle.tca_report.specs.declared.input.InputFault.{InputFault}
use Rattle.tca_report.specs.declared.input.Notes.{Notes}
use Rattle.tca_report.specs.declared.input.Gathered.{Gathered}

-- the notes that go with what was read
abbrev pub notes_of : CaptureSoFar → Notes
notes_of so_far = record { messages = so_far.messages; not_reports = counts_of so_far.reasons; unplaced = so_far.unplaced_messages; skipped = so_far.skipped }

-- reports and notes
abbrev pub reports_and_notes : CaptureSoFar → List PacketReport × Notes
reports_and_notes so_far = (so_far.reports, notes_of so_far)

abbrev pub gathered_of : Result CaptureSoFar InputFault → Result (List PacketReport × Notes) InputFault
gathered_of (Ok so_far) = Ok (reports_and_notes so_far)
gathered_of (Err fault) = Err fault

abbrev pub gathered_view : Gathered → List PacketReport × Notes
gathered_view g = (g.reports.items, g.notes)
