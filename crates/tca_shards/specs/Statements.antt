-- The figures of the statement of a bill, and the statements of sets that are billed apart.
use Rattle.std.specs.Prelude.{◌≡◌, ◌≤◌, ℕ, List, [], ◌∷◌, length, map, slice_index}
use Rattle.std.specs.List.{AllByRecursion, zip}
use Rattle.std.specs.List.Sorted.{IsStrictlySortedBy}
use Rattle.tca_join.specs.SetLaws.{union}
use Rattle.tca_report.specs.report.Reports.{InRange, PacketReport, report_cmp, most_reports}
use Rattle.tca_accounts.specs.Plans.{AccountPlan, IsPlan, PlannedAccount}
use Rattle.tca_accounts.specs.Sums.{ColourSums}
use Rattle.tca_accounts.specs.Bills.{bill_of}
use Rattle.tca_accounts.specs.declared.span.Span.{Span}
use Rattle.tca_accounts.specs.declared.tally.Tally.{Tally}
use Rattle.tca_accounts.specs.declared.bill.Bill.{Bill}
use Rattle.tca_statements.specs.Statements.{statement_text}
use Rattle.tca_figures.specs.Figures.{Stated, StatedAccount}
use Rattle.tca_figures.specs.Lines.{IsTextOf, statement_octets}
use Rattle.tca_figures.specs.Sums.{Fits}
use Rattle.tca_figures.specs.Totals.{IsSumOf}
use Rattle.tca_figures.specs.declared.figures.ColourFigures.{ColourFigures}
use Rattle.tca_figures.specs.declared.figures.Figure.{Figure}
use Rattle.tca_figures.specs.declared.figures.SpanFigures.{SpanFigures}
use Rattle.tca_shards.specs.Shards.{HaveDomainsApart, Pairwise, united}
use Rattle.tca_shards.specs.Windows.{AreAllWindows, early, windows_from}

-- octets and packets of a colour by its number
abbrev pub figure_of : ColourSums → ℕ → Figure
figure_of s colour = record { octets = slice_index s.octets colour; packets = slice_index s.packets colour }

-- octets and packets of green, of yellow and of red
abbrev pub figures_of : ColourSums → ColourFigures
figures_of s = record { green = figure_of s 0; yellow = figure_of s 1; red = figure_of s 2 }

-- the figures of a period
abbrev pub span_figures : Span → SpanFigures
span_figures s = record { index = s.index; sums = figures_of s.sums }

-- the figures of an account
abbrev pub account_figures : PlannedAccount → Tally → StatedAccount
account_figures a t = record { name = a.name; total = figures_of t.total; spans = map span_figures t.spans }

-- the figures of a bill under its plan
abbrev pub stated : AccountPlan → Bill → Stated
stated plan bill = record {
  period = plan.period;
  reports = bill.reports;
  disputed = bill.disputed;
  unassigned = bill.unassigned;
  accounts = map (λ a. account_figures a.0 a.1) (zip plan.accounts bill.accounts);
}

-- a set that a log may hold
pub record IsLogged (rs : List PacketReport) : Type 0 where
  pub rises : IsStrictlySortedBy report_cmp rs
  pub few : length rs ≤ most_reports
  pub ranged : AllByRecursion InRange rs

-- The text of the statement of a bill is in form, and its figures are the bill's.
abbrev pub BillsAreRead : Type 0
BillsAreRead = (plan : AccountPlan) (rs : List PacketReport) → IsPlan plan → IsLogged rs → IsTextOf (statement_text plan (bill_of plan rs)) (stated plan (bill_of plan rs))

-- The text of the statement of a bill is that of its figures, of whatever bill: of one of more reports than a log holds too.
abbrev pub BillsAreWritten : Type 0
BillsAreWritten = (plan : AccountPlan) (bill : Bill) → statement_text plan bill ≡ statement_octets (stated plan bill)

-- each sum has 64 bits, where one set after the other is united with those before it
unfoldable pub FitTogether : AccountPlan → List PacketReport → List (List PacketReport) → Type 0
FitTogether plan rs [] = Unit {0}
FitTogether plan rs (more ∷ sets) = Fits (stated plan (bill_of plan (union report_cmp rs more))) × FitTogether plan (union report_cmp rs more) sets

-- the texts of the statements of sets
abbrev pub statements_of : AccountPlan → List (List PacketReport) → List (List ℕ)
statements_of plan sets = map (λ s. statement_text plan (bill_of plan s)) sets

-- The sum of the statements of sets, each two of which have their domains apart, is what the statement of their union says.
abbrev pub StatementsAddUp : Type 0
StatementsAddUp = (plan : AccountPlan) (rs : List PacketReport) (sets : List (List PacketReport))
    → IsPlan plan → AllByRecursion IsLogged (rs ∷ sets) → Pairwise (HaveDomainsApart plan) (rs ∷ sets) → FitTogether plan rs sets
    → IsSumOf (statements_of plan (rs ∷ sets)) (stated plan (bill_of plan (united rs sets)))

-- each sum has 64 bits, where the reports before each moment are billed, and all at the end
unfoldable pub FitInTurn : AccountPlan → List ℕ → List PacketReport → Type 0
FitInTurn plan [] rs = Fits (stated plan (bill_of plan rs))
FitInTurn plan (t ∷ ts) rs = Fits (stated plan (bill_of plan (early t rs))) × FitInTurn plan ts rs

-- The sum of the statements of windows of time that are billed apart, of the one before the first of these moments and of each from it on, is
-- what the statement of all reports says.
abbrev pub WindowsStatementsAddUp : Type 0
WindowsStatementsAddUp = (plan : AccountPlan) (t : ℕ) (ts : List ℕ) (rs : List PacketReport)
    → IsPlan plan → AreAllWindows plan t ts rs → AllByRecursion IsLogged (early t rs ∷ windows_from t ts rs) → FitInTurn plan ts rs
    → IsSumOf (statements_of plan (early t rs ∷ windows_from t ts rs)) (stated plan (bill_of plan rs))
