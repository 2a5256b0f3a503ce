-- What one record more adds to the reports and the reasons.
use Rattle.std.proofs.Common.{◌≡◌, List, [], ◌∷◌, ◌++◌, Result, Ok, Err, refl, ap}
use Rattle.tca_templates.specs.Records.{PlacedView}
use Rattle.tca_report.specs.report.Reports.{PacketReport}
use Rattle.tca_report.specs.input.Extract.{extract_of}
use Rattle.tca_report.specs.input.Inputs.{or_left_out, or_taken, reports_of, reasons_of}
use Rattle.tca_report.specs.declared.input.extraction.NotReport.{NotReport}

pub reports_more : (records : List PlacedView) (r : PlacedView) → reports_of (records ++ r ∷ []) ≡ reports_of records ++ or_left_out (extract_of r) []
reports_more [] r = refl
reports_more (x ∷ xs) r = go (extract_of x) (reports_more xs r)
  where
    go : (found : Result PacketReport NotReport) → reports_of (xs ++ r ∷ []) ≡ reports_of xs ++ or_left_out (extract_of r) []
        → or_left_out found (reports_of (xs ++ r ∷ [])) ≡ or_left_out found (reports_of xs) ++ or_left_out (extract_of r) []
    go (Ok q) h = ap (λ (l : List PacketReport). q ∷ l) h
    go (Err reason) h = h

pub reasons_more : (records : List PlacedView) (r : PlacedView) → reasons_of (records ++ r ∷ []) ≡ reasons_of records ++ or_taken (extract_of r) []
reasons_more [] r = refl
reasons_more (x ∷ xs) r = go (extract_of x) (reasons_more xs r)
  where
    go : (found : Result PacketReport NotReport) → reasons_of (xs ++ r ∷ []) ≡ reasons_of xs ++ or_taken (extract_of r) []
        → or_taken found (reasons_of (xs ++ r ∷ [])) ≡ or_taken found (reasons_of xs) ++ or_taken (extract_of r) []
    go (Ok q) h = h
    go (Err reason) h = ap (λ (l : List NotReport). reason ∷ l) h
