-- What one record more adds to what was taken.
use Rattle.std.proofs.Common.{◌≡◌, ◌++◌, ◌∷◌, [], List, Result, Ok, Err, ◌∙◌, ap, sym}
use Rattle.std.proofs.lemmas.List.{append-nil}
use Rattle.tca_templates.specs.Records.{PlacedView}
use Rattle.tca_report.specs.report.Reports.{PacketReport}
use Rattle.tca_report.specs.input.Extract.{extract_of}
use Rattle.tca_report.specs.input.Inputs.{or_left_out, or_taken, reports_of, reasons_of}
use Rattle.tca_report.specs.declared.input.extraction.NotReport.{NotReport}
use Rattle.tca_report.proofs.lemmas.input.OneMore.{reports_more, reasons_more}

-- a report more
pub with_report : (r : PlacedView) (q : PacketReport) (records : List PlacedView) → Ok q ≡ extract_of r → reports_of (records ++ r ∷ []) ≡ reports_of records ++ q ∷ []
with_report r q records e = reports_more records r ∙ ap (λ (x : Result PacketReport NotReport). reports_of records ++ or_left_out x []) (sym e)

pub no_reason : (r : PlacedView) (q : PacketReport) (records : List PlacedView) → Ok q ≡ extract_of r → reasons_of (records ++ r ∷ []) ≡ reasons_of records
no_reason r q records e = reasons_more records r ∙ ap (λ (x : Result PacketReport NotReport). reasons_of records ++ or_taken x []) (sym e) ∙ append-nil (reasons_of records)

-- a reason more
pub no_report : (r : PlacedView) (reason : NotReport) (records : List PlacedView) → Err reason ≡ extract_of r → reports_of (records ++ r ∷ []) ≡ reports_of records
no_report r reason records e = reports_more records r ∙ ap (λ (x : Result PacketReport NotReport). reports_of records ++ or_left_out x []) (sym e) ∙ append-nil (reports_of records)

pub with_reason : (r : PlacedView) (reason : NotReport) (records : List PlacedView) → Err reason ≡ extract_of r → reasons_of (records ++ r ∷ []) ≡ reasons_of records ++ reason ∷ []
with_reason r reason records e = reasons_more records r ∙ ap (λ (x : Result PacketReport NotReport). reasons_of records ++ or_taken x []) (sym e)
