-- What has come of the data records of a capture. Cited inside this crate alone.
use Rattle.std.specs.Prelude.{◌≡◌, ◌++◌, ◌+◌, ◌<◌, ◌^◌, List, length}
use Rattle.tca_templates.specs.Records.{PlacedView}
use Rattle.tca_report.specs.input.Inputs.{counts_of, reports_of, reasons_of}
use Rattle.tca_report.specs.declared.input.capture.Extracted.{Extracted}
use Rattle.tca_report.specs.declared.input.extraction.NotReport.{NotReport}

-- With these records the reports have been added that they make, and the reasons have been counted why others make none.
abbrev pub HasTaken : Extracted → List PlacedView → Extracted → Type 0
HasTaken start records now =
    (now.reports.items ≡ start.reports.items ++ reports_of records)
    × ((reasons : List NotReport) → start.not_reports ≡ counts_of reasons → length reasons + length records < 2 ^ 64 → now.not_reports ≡ counts_of (reasons ++ reasons_of records))
