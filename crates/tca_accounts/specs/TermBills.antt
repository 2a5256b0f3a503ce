-- An account's bill in the words of its terms: its sums are those of its terms' meters, each fed from full buckets the reports of its time.
use Rattle.std.specs.Prelude.{◌≡◌, ℕ, ◌==◌, List, [], filter}
use Rattle.std.specs.List.{flat_map, sum_by}
use Rattle.std.specs.List.Sorted.{IsStrictlySortedBy}
use Rattle.tca_report.specs.report.Reports.{PacketReport, report_cmp}
use Rattle.tca_meters.specs.declared.colour.Colour.{Colour}
use Rattle.tca_meters.specs.AnyMeters.{any_rule}
use Rattle.tca_meters.specs.Packets.{coloured}
use Rattle.tca_meters.specs.Termed.{IsTermed, term, term_at}
use Rattle.tca_meters.specs.TermsApart.{term_numbers}
use Rattle.tca_accounts.specs.Plans.{PlannedAccount}
use Rattle.tca_accounts.specs.Sums.{octets_in, packet_of, packets_in}
use Rattle.tca_accounts.specs.Spans.{within}
use Rattle.tca_accounts.specs.Bills.{coloured_by, coloured_in}

-- the reports of a term: those of its time
abbrev pub reports_in_term : PlannedAccount → ℕ → List PacketReport → List PacketReport
reports_in_term account n reports = filter (λ r. term_at account.meter r.time == n) reports

-- these with the colours that the term's meter gives them by itself: at the term's start both its buckets are full, and no report of
-- another term comes to it
abbrev pub coloured_in_term : PlannedAccount → ℕ → List PacketReport → List (PacketReport × Colour)
coloured_in_term account n reports =
    let meter = any_rule (term account.meter n).1 in
    coloured meter (packet_of account.other) meter.opening (term account.meter n).0 (reports_in_term account n reports)

-- an amount of each term of an account, all together
abbrev pub of_all_terms : PlannedAccount → (ℕ → ℕ) → ℕ
of_all_terms account amount = sum_by amount (term_numbers account.meter)

-- The account's reports with their colours are those of its terms, one term after the other. So of each colour there are as many octets
-- and packets as in all terms together, and so it is in each period.
pub record AreOfTerms (account : PlannedAccount) (reports : List PacketReport) : Type 0 where
  pub in_turn : coloured_in account reports ≡ flat_map (λ n. coloured_in_term account n reports) (term_numbers account.meter)
  pub octets : (c : Colour) → octets_in c (coloured_in account reports) ≡ of_all_terms account (λ n. octets_in c (coloured_in_term account n reports))
  pub packets : (c : Colour) → packets_in c (coloured_in account reports) ≡ of_all_terms account (λ n. packets_in c (coloured_in_term account n reports))
  pub period_octets : (period index : ℕ) (c : Colour) → octets_in c (within period index (coloured_in account reports))
      ≡ of_all_terms account (λ n. octets_in c (within period index (coloured_in_term account n reports)))
  pub period_packets : (period index : ℕ) (c : Colour) → packets_in c (within period index (coloured_in account reports))
      ≡ of_all_terms account (λ n. packets_in c (within period index (coloured_in_term account n reports)))

-- so it is for each account whose terms ascend, and reports in their order
abbrev pub BillsByTerm : PlannedAccount → Type 0
BillsByTerm account = IsTermed account.meter → (reports : List PacketReport) → IsStrictlySortedBy report_cmp reports → AreOfTerms account reports

-- an account without terms has the colours of its one meter
abbrev pub BillsAsOne : PlannedAccount → Type 0
BillsAsOne account = account.meter.later ≡ [] → (reports : List PacketReport) → coloured_in account reports ≡ coloured_by (any_rule account.meter.first) account.other reports
