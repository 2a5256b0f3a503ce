-- The sums of each period, in the order of time.
use Rattle.std.specs.Prelude.{ℕ, ◌/◌, ◌==◌, List, filter, map}
use Rattle.std.specs.List.Sorted.{IsStrictlySortedBy}
use Rattle.std.specs.Ordering.{nat_cmp}
use Rattle.tca_join.specs.Sets.{in_order}
use Rattle.tca_report.specs.report.Reports.{PacketReport}
use Rattle.tca_meters.specs.declared.colour.Colour.{Colour}
use Rattle.tca_accounts.specs.Sums.{sums_of}
use Rattle.tca_accounts.specs.declared.span.Span.{Span}

-- the indexes strictly ascend
abbrev pub Ascend : List Span → Type 0
Ascend spans = IsStrictlySortedBy nat_cmp (map (λ s. s.index) spans)

-- the period of a report: its time by the length of a period, rounded down
abbrev pub period_of : ℕ → PacketReport → ℕ
period_of period r = r.time / period

-- the reports of one period
abbrev pub within : ℕ → ℕ → List (PacketReport × Colour) → List (PacketReport × Colour)
within period index pairs = filter (λ p. period_of period p.0 == index) pairs

-- the periods that have a report, ascending, each with the sums of its reports
abbrev pub spans_of : ℕ → List (PacketReport × Colour) → List Span
spans_of period pairs = map (λ index. record { index = index; sums = sums_of (within period index pairs) })
    (in_order nat_cmp (map (λ p. period_of period p.0) pairs))
