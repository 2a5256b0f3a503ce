-- The spelling of a list of reports in each version of the log export.
use Rattle.std.specs.Prelude.{◌≡◌, ℕ, ◌+◌, ◌*◌, ◌^◌, ◌<◌, ◌≤◌, List, [], ◌∷◌, ◌++◌, length}
use Rattle.std.specs.List.{flat_map, AllByRecursion}
use Rattle.std.specs.List.Sorted.{IsStrictlySortedBy}
use Rattle.std.specs.Int.{w16, w32, w64, to_be_bytes}
use Rattle.tca_report.specs.report.Reports.{PacketReport, InRange, most_reports, report_cmp}
use Rattle.tca_report.specs.declared.export.Format.{Format}
use Rattle.tca_report.specs.declared.export.Format.TheVariants.{Version1, Version2}

-- the number of a version
abbrev pub version_of : Format → ℕ
version_of Version1 = 1
version_of Version2 = 2

-- sessions are below it: version 1 spells session 0 alone
abbrev pub session_end : Format → ℕ
session_end Version1 = 1
session_end Version2 = 2 ^ 32

-- octets of a session
abbrev pub session_size : Format → ℕ
session_size Version1 = 0
session_size Version2 = 4

-- octets of a report
abbrev pub record_size : Format → ℕ
record_size format = 25 + session_size format

-- octets of so many reports
abbrev pub records_size : Format → ℕ → ℕ
records_size Version1 count = 25 * count
records_size Version2 count = 29 * count

-- how a version spells a session
abbrev pub session_octets : Format → ℕ → List ℕ
session_octets Version1 session = []
session_octets Version2 session = to_be_bytes w32 session

-- time (8), domain (4), in version 2 session (4), place (4), octets (4), DSCP (1), interface (4)
abbrev pub record_octets : Format → PacketReport → List ℕ
record_octets format r =
    to_be_bytes w64 r.time
    ++ (to_be_bytes w32 r.domain
    ++ (session_octets format r.session
    ++ (to_be_bytes w32 r.place ++ (to_be_bytes w32 r.octets ++ (r.dscp ∷ to_be_bytes w32 r.iface)))))

-- the letters TCAX
abbrev pub magic : List ℕ
magic = 84 ∷ 67 ∷ 65 ∷ 88 ∷ []

-- TCAX (4), the version (2), the count of reports (4)
abbrev pub header_octets : Format → ℕ → List ℕ
header_octets format count = magic ++ (to_be_bytes w16 (version_of format) ++ to_be_bytes w32 count)

-- in one version: the header, and then the reports in order
abbrev pub spelling : Format → List PacketReport → List ℕ
spelling format rs = header_octets format (length rs) ++ flat_map (record_octets format) rs

-- what is written is version 2
abbrev pub export : List PacketReport → List ℕ
export rs = spelling Version2 rs

-- an export lists reports that rise strictly, each in range, at most 4,194,304 of them
pub record IsExportable (rs : List PacketReport) : Type 0 where
  pub few : length rs ≤ most_reports
  pub rises : IsStrictlySortedBy report_cmp rs
  pub ranges : AllByRecursion InRange rs

-- each report has a session that the version spells
abbrev pub HaveSessions : Format → List PacketReport → Type 0
HaveSessions format rs = AllByRecursion (λ r. r.session < session_end format) rs

-- The octets are the export of these reports, in either version.
pub record IsExport (octets : List ℕ) (rs : List PacketReport) : Type 0 where
  pub exportable : IsExportable rs
  pub format : Format
  pub sessions : HaveSessions format rs
  pub whole : octets ≡ spelling format rs
