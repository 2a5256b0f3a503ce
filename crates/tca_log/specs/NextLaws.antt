-- The laws of one more report.
use Rattle.std.specs.Prelude.{◌≡◌, Bool, true, false, List, length, filter}
use Rattle.std.specs.List.Sorted.{IsStrictlySortedBy}
use Rattle.tca_join.specs.Sets.{has, put}
use Rattle.tca_report.specs.report.Reports.{PacketReport, report_cmp}
use Rattle.tca_log.specs.Disputes.{added, undisputed, disputed}
use Rattle.tca_log.specs.declared.answer.Added.TheVariants.{Fresh, NewDispute}
use Rattle.tca_log.specs.Next.{reports_after, disputed_after, undisputed_after, kept_after, count_after}

-- the undisputed reports
abbrev pub UndisputedNext : Type 0
UndisputedNext = (rs : List PacketReport) (r : PacketReport) → IsStrictlySortedBy report_cmp rs
    → undisputed (put report_cmp r rs) ≡ undisputed_after (added rs r) r (undisputed rs)

-- how many identities are disputed
abbrev pub DisputedNext : Type 0
DisputedNext = (rs : List PacketReport) (r : PacketReport) → IsStrictlySortedBy report_cmp rs
    → length (disputed (put report_cmp r rs)) ≡ disputed_after (added rs r) (length (disputed rs))

-- the undisputed reports that a test keeps: they change only where it keeps the new report, or the one withdrawn
abbrev pub KeptNext : Type 0
KeptNext = (p : PacketReport → Bool) (rs : List PacketReport) (r : PacketReport) → IsStrictlySortedBy report_cmp rs
    → filter p (undisputed (put report_cmp r rs)) ≡ kept_after p (added rs r) r (filter p (undisputed rs))

-- how many of them a test keeps
abbrev pub CountNext : Type 0
CountNext = (p : PacketReport → Bool) (rs : List PacketReport) (r : PacketReport) → IsStrictlySortedBy report_cmp rs
    → length (filter p (undisputed (put report_cmp r rs))) ≡ count_after p (added rs r) r (length (filter p (undisputed rs)))

-- how many reports there are
abbrev pub ReportsNext : Type 0
ReportsNext = (rs : List PacketReport) (r : PacketReport) → IsStrictlySortedBy report_cmp rs
    → length (put report_cmp r rs) ≡ reports_after (added rs r) (length rs)

-- a fresh report is none of the undisputed ones yet
abbrev pub NewIsNew : Type 0
NewIsNew = (p : PacketReport → Bool) (rs : List PacketReport) (r : PacketReport) → added rs r ≡ Fresh → has report_cmp (filter p (undisputed rs)) r ≡ false

-- a report that is withdrawn is one of them
abbrev pub WithdrawnIsThere : Type 0
WithdrawnIsThere = (p : PacketReport → Bool) (rs : List PacketReport) (r q : PacketReport) → added rs r ≡ NewDispute q → p q ≡ true
    → has report_cmp (filter p (undisputed rs)) q ≡ true
