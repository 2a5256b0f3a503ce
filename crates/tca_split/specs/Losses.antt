-- What is read of the parts of a capture, beside what is read of it.
use Rattle.std.specs.Prelude.{◌≡◌, ℕ, ◌+◌, ◌==◌, false, List, [], ◌∷◌, filter, Ok}
use Rattle.tca_wire.specs.Frames.{frames_of}
use Rattle.tca_report.specs.report.Reports.{PacketReport}
use Rattle.tca_report.specs.input.Inputs.{CaptureSoFar, count_of_reason, is_export, read_input}
use Rattle.tca_split.specs.Parts.{domains_of, part_of}

-- the reports of a domain, in their order
abbrev pub reports_in : ℕ → List PacketReport → List PacketReport
reports_in domain reports = filter (λ r. domain == r.domain) reports

-- a number of each of these domains, added up
abbrev pub added : (ℕ → ℕ) → List ℕ → ℕ
added number [] = 0
added number (d ∷ ds) = number d + added number ds

-- The notes of the parts of these domains add up to those of the whole: its messages, the records that are no reports, by the number of the
-- reason, the messages with a data set of an unknown template, and the skipped sets.
pub record AddUp (domains : List ℕ) (whole : CaptureSoFar) (parts : ℕ → CaptureSoFar) : Type 0 where
  pub messages : whole.messages ≡ added (λ d. (parts d).messages) domains
  pub not_reports : (reason : ℕ) → count_of_reason reason whole.reasons ≡ added (λ d. count_of_reason reason (parts d).reasons) domains
  pub unplaced : whole.unplaced_messages ≡ added (λ d. (parts d).unplaced_messages) domains
  pub skipped : whole.skipped ≡ added (λ d. (parts d).skipped) domains

-- Each domain's part of a capture is read without a fault, its reports are those of the domain, in their order, and the notes add up.
pub record LosesNothing (session : ℕ) (octets : List ℕ) (whole : CaptureSoFar) : Type 0 where
  pub parts : ℕ → CaptureSoFar
  pub read : (domain : ℕ) → read_input (record { session = session; octets = part_of domain octets }) ≡ Ok (parts domain)
  pub reports : (domain : ℕ) → (parts domain).reports ≡ reports_in domain whole.reports
  pub notes : AddUp (domains_of (frames_of octets).0) whole parts

-- So it is with each capture that is read without a fault.
abbrev pub SplittingLosesNothing : Type 0
SplittingLosesNothing = (session : ℕ) (octets : List ℕ) (whole : CaptureSoFar) → is_export octets ≡ false
    → read_input (record { session = session; octets = octets }) ≡ Ok whole → LosesNothing session octets whole
