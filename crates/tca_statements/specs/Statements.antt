-- The octets of a statement.
use Rattle.std.specs.Prelude.{ℕ, List, ◌++◌, codes, slice_index}
use Rattle.std.specs.List.{flat_map, zip}
use Rattle.std.specs.Fmt.{decimal}
use Rattle.tca_report.specs.report.Reports.{PacketReport}
use Rattle.tca_accounts.specs.Bills.{bill_of}
use Rattle.tca_accounts.specs.Plans.{AccountPlan}
use Rattle.tca_accounts.specs.Sums.{ColourSums}
use Rattle.tca_accounts.specs.declared.bill.Bill.{Bill}
use Rattle.tca_accounts.specs.declared.span.Span.{Span}
use Rattle.tca_accounts.specs.declared.tally.Tally.{Tally}

-- a number behind a space
abbrev pub field : ℕ → List ℕ
field n = codes " " ++ decimal n

-- octets and packets of green, of yellow and of red
abbrev pub sums_fields : ColourSums → List ℕ
sums_fields s =
    field (slice_index s.octets 0) ++ (field (slice_index s.packets 0)
    ++ (field (slice_index s.octets 1) ++ (field (slice_index s.packets 1)
    ++ (field (slice_index s.octets 2) ++ field (slice_index s.packets 2)))))

-- a line of a word and a number
abbrev pub number_line : List ℕ → ℕ → List ℕ
number_line word n = word ++ (field n ++ codes "\n")

-- the line of a period with a packet
abbrev pub span_line : Span → List ℕ
span_line span = codes "span" ++ (field span.index ++ (sums_fields span.sums ++ codes "\n"))

-- the line of all of an account's packets
abbrev pub total_line : ColourSums → List ℕ
total_line total = codes "total" ++ (sums_fields total ++ codes "\n")

-- the lines of an account: its name, its total, and its periods in order
unfoldable pub account_lines : List ℕ → Tally → List ℕ
account_lines name tally = codes "account " ++ (name ++ (codes "\n" ++ (total_line tally.total ++ flat_map span_line tally.spans)))

-- the lines before the accounts
unfoldable pub opening_lines : ℕ → Bill → List ℕ
opening_lines period bill =
    codes "tcacct statement 1\n" ++ (number_line (codes "period") period
    ++ (number_line (codes "reports") bill.reports
    ++ (number_line (codes "disputed") bill.disputed
    ++ number_line (codes "unassigned") bill.unassigned)))

-- the statement of a bill under its plan, with the accounts in the plan's order
unfoldable pub statement_text : AccountPlan → Bill → List ℕ
statement_text plan bill =
    opening_lines plan.period bill
    ++ (flat_map (λ a. account_lines a.0.name a.1) (zip plan.accounts bill.accounts) ++ codes "end\n")

-- the statement of a set of reports under a plan
abbrev pub statement_under : AccountPlan → List PacketReport → List ℕ
statement_under plan rs = statement_text plan (bill_of plan rs)
