-- What a log refuses.
use Rattle.std.specs.Prelude.{◌≡◌, ◌<◌, ◌≤◌, ℕ, List, length}
use Rattle.tca_report.specs.report.Reports.{PacketReport, most_reports}
use Rattle.tca_log.specs.declared.fault.LogFault.{LogFault}
use Rattle.tca_log.specs.declared.fault.LogFault.TheVariants.{Full, Memory}

-- the number of a fault
abbrev pub fault_number : LogFault → ℕ
fault_number Full = 1
fault_number Memory = 2

-- a set that has room for no further report is full, and memory was asked for only where there was room
abbrev pub IsAddRefused : LogFault → List PacketReport → Type 0
IsAddRefused Full rs = length rs ≡ most_reports
IsAddRefused Memory rs = length rs < most_reports

-- full exactly where so many reports are above the limit
abbrev pub IsRefusedBy : LogFault → ℕ → Type 0
IsRefusedBy Full count = most_reports < count
IsRefusedBy Memory count = count ≤ most_reports

-- full exactly where the union is above the limit
abbrev pub IsUnionRefused : LogFault → List PacketReport → Type 0
IsUnionRefused fault all = IsRefusedBy fault (length all)
