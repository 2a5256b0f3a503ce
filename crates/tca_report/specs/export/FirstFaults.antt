-- Octets that are no export, and the fault that is the first from the left.
use Rattle.std.specs.Prelude.{◌≡◌, ◌≢◌, ℕ, ◌<◌, ◌≤◌, ◌^◌, List, [], ◌∷◌, ◌++◌, length}
use Rattle.std.specs.List.{flat_map, AllByRecursion}
use Rattle.std.specs.List.Sorted.{IsStrictlySortedBy}
use Rattle.std.specs.Int.{w16, to_be_bytes}
use Rattle.tca_report.specs.report.Reports.{PacketReport, InRange, report_cmp, most_reports}
use Rattle.tca_report.specs.export.Spelling.{record_octets, records_size, session_end, magic, header_octets, HaveSessions}
use Rattle.tca_report.specs.declared.export.Format.{Format}
use Rattle.tca_report.specs.declared.export.ExportFault.{ExportFault}
use Rattle.tca_report.specs.declared.export.ExportFault.TheVariants.{Magic, Version, Count, Cut, Range, Order}

-- What the octets of a report can spell: a time of 64 bits, a code point of eight, and 32 bits for each other field; in version 1 session 0.
pub record HasWidths (format : Format) (r : PacketReport) : Type 0 where
  pub time : r.time < 2 ^ 64
  pub domain : r.domain < 2 ^ 32
  pub session : r.session < session_end format
  pub place : r.place < 2 ^ 32
  pub octets : r.octets < 2 ^ 32
  pub dscp : r.dscp < 2 ^ 8
  pub iface : r.iface < 2 ^ 32

-- A right header with just the octets that its count needs, in them reports in range that rise strictly, and behind these another one.
pub record HasReport (octets : List ℕ) (before : List PacketReport) (r : PacketReport) : Type 0 where
  pub format : Format
  pub count : ℕ
  pub behind : List ℕ
  pub whole : octets ≡ header_octets format count ++ (flat_map (record_octets format) before ++ (record_octets format r ++ behind))
  pub few : count ≤ most_reports
  pub long : length (flat_map (record_octets format) before ++ (record_octets format r ++ behind)) ≡ records_size format count
  pub rises : IsStrictlySortedBy report_cmp before
  pub ranges : AllByRecursion InRange before
  pub sessions : HaveSessions format before
  pub widths : HasWidths format r

-- What is wrong with octets that are no export; before it all is right.
pub data IsFaultyExport (octets : List ℕ) (fault : ExportFault) : Type 0 where
  -- The octets end within the letters.
  CutLetters : length octets < 4 → fault ≡ Cut → IsFaultyExport octets fault
  -- The first four aren't TCAX.
  OtherLetters : (letters rest : List ℕ) → octets ≡ letters ++ rest → length letters ≡ 4 → letters ≢ magic → fault ≡ Magic → IsFaultyExport octets fault
  -- They end within version and count.
  CutHeader : (rest : List ℕ) → octets ≡ magic ++ rest → length rest < 6 → fault ≡ Cut → IsFaultyExport octets fault
  -- The version is neither 1 nor 2.
  OtherVersion : (version : ℕ) → (rest : List ℕ) → octets ≡ magic ++ (to_be_bytes w16 version ++ rest) → version < 2 ^ 16 → version ≢ 1 → version ≢ 2 → 4 ≤ length rest
      → fault ≡ Version version → IsFaultyExport octets fault
  -- The count is above the limit.
  ManyReports : (format : Format) → (count : ℕ) → (rest : List ℕ) → octets ≡ header_octets format count ++ rest → count < 2 ^ 32 → most_reports < count → fault ≡ Count
      → IsFaultyExport octets fault
  -- Fewer octets follow than the count needs.
  CutReports : (format : Format) → (count : ℕ) → (rest : List ℕ) → octets ≡ header_octets format count ++ rest → count ≤ most_reports → length rest < records_size format count → fault ≡ Cut
      → IsFaultyExport octets fault
  -- More octets follow than the count needs.
  MoreOctets : (format : Format) → (count : ℕ) → (rest : List ℕ) → octets ≡ header_octets format count ++ rest → count ≤ most_reports → records_size format count < length rest → fault ≡ Count
      → IsFaultyExport octets fault
  -- A report isn't in range, whether or not it is above the one before it.
  OutOfRange : (before : List PacketReport) → (r : PacketReport) → HasReport octets before r → (InRange r → ⊥) → fault ≡ Range (length before)
      → IsFaultyExport octets fault
  -- A report is in range, and the reports don't rise strictly with it.
  NotAbove : (before : List PacketReport) → (r : PacketReport) → HasReport octets before r → InRange r
      → (IsStrictlySortedBy report_cmp (before ++ r ∷ []) → ⊥) → fault ≡ Order (length before) → IsFaultyExport octets fault
