-- The reports that octets spell as an export, or the first thing from the left that is wrong with them.
use Rattle.std.specs.Prelude.{ℕ, zero, suc, ◌+◌, List, [], ◌∷◌, length, take, drop, slice_index, Option, Some, None, Result, Ok, Err, Bool, true, not, ◌&&◌, nat_lt, ◌==◌, if◌then◌else◌}
use Rattle.std.specs.Int.{w16, w32, w64, from_be_bytes}
use Rattle.std.specs.Ordering.{is_lt}
use Rattle.tca_report.specs.report.Reports.{PacketReport, report_cmp, in_range, most_reports}
use Rattle.tca_report.specs.export.Spelling.{records_size}
use Rattle.tca_report.specs.declared.export.Format.{Format}
use Rattle.tca_report.specs.declared.export.Format.TheVariants.{Version1, Version2}
use Rattle.tca_report.specs.declared.export.ExportFault.{ExportFault}
use Rattle.tca_report.specs.declared.export.ExportFault.TheVariants.{Magic, Version, Count, Cut, Range, Order}

-- the session at the front, and the octets after it: version 1 has session 0 alone, and doesn't spell it
abbrev pub session_at : Format → List ℕ → ℕ × List ℕ
session_at Version1 octets = (0, octets)
session_at Version2 octets = (from_be_bytes w32 (take 4 octets), drop 4 octets)

-- what the octets of one report say, and the octets after them
abbrev pub record_at : Format → List ℕ → PacketReport × List ℕ
record_at format octets =
    let a = drop 8 octets in
    let s = session_at format (drop 4 a) in
    let c = drop 4 s.1 in
    let d = drop 4 c in
    let e = drop 1 d in (
      record {
        time = from_be_bytes w64 (take 8 octets);
        domain = from_be_bytes w32 (take 4 a);
        session = s.0;
        place = from_be_bytes w32 (take 4 s.1);
        octets = from_be_bytes w32 (take 4 c);
        dscp = slice_index d 0;
        iface = from_be_bytes w32 (take 4 e);
      },
      drop 4 e,
    )

-- whether a report is above the last one before it
abbrev pub above : Option PacketReport → PacketReport → Bool
above None r = true
above (Some last) r = is_lt (report_cmp last r)

-- a report, and then those that are read after it
abbrev pub with_first : PacketReport → Result (List PacketReport) ExportFault → Result (List PacketReport) ExportFault
with_first r (Ok rs) = Ok (r ∷ rs)
with_first r (Err e) = Err e

-- so many reports, numbered from n, each in range and above the one before it
unfoldable pub records_at : Format → ℕ → ℕ → Option PacketReport → List ℕ → Result (List PacketReport) ExportFault
records_at format zero n last octets = Ok []
records_at format (suc count) n last octets =
    let r = record_at format octets in
    if in_range r.0
    then (if above last r.0 then with_first r.0 (records_at format count (n + 1) (Some r.0) r.1) else Err (Order n))
    else Err (Range n)

-- whether the first four octets are TCAX
abbrev pub has_magic : List ℕ → Bool
has_magic octets =
    slice_index octets 0 == 84
    && (slice_index octets 1 == 67 && (slice_index octets 2 == 65 && slice_index octets 3 == 88))

-- the version of a number
abbrev pub format_of : ℕ → Option Format
format_of version = if version == 1 then Some Version1 else (if version == 2 then Some Version2 else None)

-- so many octets for a count of reports
abbrev pub counted : ℕ → ℕ → ℕ → Option Format → Result (Format × ℕ) ExportFault
counted version count size None = Err (Version version)
counted version count size (Some format) =
    if nat_lt most_reports count then Err Count
    else (if nat_lt size (10 + records_size format count) then Err Cut
    else (if nat_lt (10 + records_size format count) size then Err Count
    else Ok (format, count)))

-- the version and how many reports follow the header, or the first thing that is wrong before them
unfoldable pub header_of : List ℕ → Result (Format × ℕ) ExportFault
header_of octets =
    let version = from_be_bytes w16 (take 2 (drop 4 octets)) in
    let count = from_be_bytes w32 (take 4 (drop 6 octets)) in
    if nat_lt (length octets) 4 then Err Cut
    else (if not (has_magic octets) then Err Magic
    else (if nat_lt (length octets) 10 then Err Cut
    else counted version count (length octets) (format_of version)))

-- the reports that follow a header
abbrev pub after_header : List ℕ → Result (Format × ℕ) ExportFault → Result (List PacketReport) ExportFault
after_header octets (Ok header) = records_at header.0 header.1 0 None (drop 10 octets)
after_header octets (Err e) = Err e

-- the reports of an export, or its first fault
abbrev pub reading : List ℕ → Result (List PacketReport) ExportFault
reading octets = after_header octets (header_of octets)
