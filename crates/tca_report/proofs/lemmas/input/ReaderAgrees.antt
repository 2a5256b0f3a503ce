-- A reader that holds what has come of a capture still does with one message more.
use Rattle.std.proofs.Common.{◌≡◌, ℕ, ◌+◌, ◌^◌, ◌<◌, ◌≤◌, List, [], ◌∷◌, ◌++◌, length, take, Option, Some, None, Result, Ok, Err, refl, sym, ap, ap₂, ◌∙◌, arith, length-append}
use Rattle.std.specs.Prelude.{is_some}
use Rattle.std.specs.Int.{from_bool}
use Rattle.tca_wire.specs.Messages.{message_of}
use Rattle.tca_wire.specs.declared.message.Header.{Header}
use Rattle.tca_wire.specs.declared.message.SetSpan.{SetSpan}
use Rattle.tca_wire.specs.declared.fault.WireFault.{WireFault}
use Rattle.tca_templates.specs.Templates.{Templates}
use Rattle.tca_templates.specs.Records.{PlacedView, source_of}
use Rattle.tca_templates.specs.Reading.{ReadMessage, read_of}
use Rattle.tca_templates.specs.declared.fault.DecodeFault.{DecodeFault}
use Rattle.tca_report.specs.report.Reports.{PacketReport}
use Rattle.tca_report.specs.input.Extract.{extract_of}
use Rattle.tca_report.specs.input.Inputs.{CaptureSoFar, or_taken, reports_of, reasons_of, counts_of, one_if, with_message, with_reading, with_split, capture_with}
use Rattle.tca_report.specs.inside.CaptureReaders.{Agrees}
use Rattle.tca_report.specs.declared.input.extraction.NotReport.{NotReport}
use Rattle.tca_report.specs.declared.input.Notes.{Notes}
use Rattle.tca_report.specs.declared.input.capture.CaptureReader.{CaptureReader}

-- what a message adds
pub with_is : (at : ℕ) (so_far : CaptureSoFar) (octets own : List ℕ) (number : ℕ) (ts : Templates) (header : Header) (sets : List SetSpan) (read : Result ReadMessage DecodeFault)
    → message_of octets ≡ Ok (header, sets) → number ≡ so_far.session → ts ≡ so_far.templates → own ≡ take header.length octets → read_of ts (source_of number header) own sets ≡ read → capture_with at so_far octets ≡ with_reading at so_far read
with_is at so_far octets own number ts header sets read split same known here found =
    ap (λ (x : Result (Header × List SetSpan) WireFault). with_split at so_far octets x) split
    ∙ ap (λ (n : ℕ). with_reading at so_far (read_of so_far.templates (source_of n header) (take header.length octets) sets)) (sym same)
    ∙ ap₂ (λ (t : Templates) (o : List ℕ). with_reading at so_far (read_of t (source_of number header) o sets)) (sym known) (sym here)
    ∙ ap (λ (x : Result ReadMessage DecodeFault). with_reading at so_far x) found

taken_more : (r : Result PacketReport NotReport) (reasons : List NotReport) → length (or_taken r reasons) ≤ length reasons + 1
taken_more (Ok x) reasons = omega arith
taken_more (Err reason) reasons = omega arith

pub reasons_few : (records : List PlacedView) → length (reasons_of records) ≤ length records
reasons_few [] = omega arith
reasons_few (r ∷ rs) = let more = reasons_few rs in let one = taken_more (extract_of r) (reasons_of rs) in omega (arith, more, one)

pub one_at_most : (unplaced : Option ℕ) → one_if unplaced ≤ 1
one_at_most None = omega arith
one_at_most (Some id) = omega arith

-- the progress goes on by a message of so many octets
pub record GoesOn (p q : CaptureReader) (given : ReadMessage) (size : ℕ) : Type 0 where
  pub session : q.decoder.number ≡ p.decoder.number
  pub templates : q.decoder.templates ≡ given.templates
  pub reports : q.taken.reports.items ≡ p.taken.reports.items ++ reports_of given.records
  pub not_reports : (reasons : List NotReport) → p.taken.not_reports ≡ counts_of reasons → length reasons + length given.records < 2 ^ 64 → q.taken.not_reports ≡ counts_of (reasons ++ reasons_of given.records)
  pub messages : q.messages ≡ p.messages + 1
  pub unplaced : q.unplaced ≡ p.unplaced + one_if given.unplaced
  pub skipped : q.skipped ≡ p.skipped + given.skipped
  pub at : q.at ≡ p.at + size
  pub some : 1 ≤ size
  pub few : length given.records ≤ size
  pub few_skipped : given.skipped ≤ size
  pub within : p.at + size < 2 ^ 64

pub agrees_more : (p q : CaptureReader) (so_far : CaptureSoFar) (given : ReadMessage) (size : ℕ) → Agrees p so_far → GoesOn p q given size → Agrees q (with_message so_far given)
agrees_more p q so_far given size k g =
    let counts = g.not_reports so_far.reasons (ap (λ (n : Notes). n.not_reports) k.notes) (omega (arith, k.reasons, g.few, g.within)) in
    let messages = g.messages ∙ ap (λ (n : Notes). n.messages + 1) k.notes in
    let unplaced = g.unplaced ∙ ap (λ (n : Notes). n.unplaced + one_if given.unplaced) k.notes in
    let skipped = g.skipped ∙ ap (λ (n : Notes). n.skipped + given.skipped) k.notes in
    record {
      session = g.session ∙ k.session;
      templates = g.templates;
      reports = g.reports ∙ ap (λ (l : List PacketReport). l ++ reports_of given.records) k.reports;
      notes = λ i. record { messages = messages i; not_reports = counts i; unplaced = unplaced i; skipped = skipped i };
      messages = omega (arith, k.messages, g.at, g.some);
      reasons = omega (arith, k.reasons, g.at, g.few, reasons_few given.records, length-append so_far.reasons (reasons_of given.records));
      unplaced_messages = omega (arith, k.unplaced_messages, g.at, g.some, one_at_most given.unplaced);
      skipped = omega (arith, k.skipped, g.at, g.few_skipped);
    }

pub one_some : (unplaced : Option ℕ) → from_bool (is_some unplaced) ≡ one_if unplaced
one_some None = refl
one_some (Some id) = refl
