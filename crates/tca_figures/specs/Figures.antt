-- What a statement says in figures, and which figures a statement may have.
use Rattle.std.specs.Prelude.{◌≡◌, ◌<◌, ◌≤◌, ◌^◌, ◌+◌, ◌*◌, ◌↔◌, ℕ, true, List, [], length, map, sum_by}
use Rattle.std.specs.List.{AllByRecursion, IsDistinct}
use Rattle.std.specs.List.Sorted.{IsStrictlySortedBy}
use Rattle.std.specs.Ordering.{nat_cmp}
use Rattle.std.specs.Str.{bytes_eq}
use Rattle.tca_report.specs.report.Reports.{time_end}
use Rattle.tca_accounts.specs.Plans.{is_name, most_accounts}
use Rattle.tca_figures.specs.declared.figures.Figure.{Figure}
use Rattle.tca_figures.specs.declared.figures.ColourFigures.{ColourFigures}
use Rattle.tca_figures.specs.declared.figures.SpanFigures.{SpanFigures}

-- an account: its name, its figures in all, and those of each period
pub record StatedAccount : Type 0 where
  pub name : List ℕ
  pub total : ColourFigures
  pub spans : List SpanFigures

-- a statement: the length of a period, its counts, and its accounts in their order
pub record Stated : Type 0 where
  pub period : ℕ
  pub reports : ℕ
  pub disputed : ℕ
  pub unassigned : ℕ
  pub accounts : List StatedAccount

-- octets and packets are numbers of 64 bits, and there are octets where there are packets
pub record IsFigure (f : Figure) : Type 0 where
  pub octets : f.octets < 2 ^ 64
  pub packets : f.packets < 2 ^ 64
  pub both : (f.octets ≡ 0) ↔ (f.packets ≡ 0)

-- so of each colour
pub record AreFigures (c : ColourFigures) : Type 0 where
  pub green : IsFigure c.green
  pub yellow : IsFigure c.yellow
  pub red : IsFigure c.red

-- how many packets there are of all colours
abbrev pub packets_of : ColourFigures → ℕ
packets_of c = c.green.packets + (c.yellow.packets + c.red.packets)

-- a period that begins before 2^48 ms, and has a packet
pub record IsSpan (period : ℕ) (span : SpanFigures) : Type 0 where
  pub small : span.index < 2 ^ 64
  pub begins : span.index * period < time_end
  pub sums : AreFigures span.sums
  pub some : 0 < packets_of span.sums

-- octets and packets of two together
abbrev pub figure_plus : Figure → Figure → Figure
figure_plus a b = record { octets = a.octets + b.octets; packets = a.packets + b.packets }

-- so of each colour
abbrev pub plus : ColourFigures → ColourFigures → ColourFigures
plus a b = record { green = figure_plus a.green b.green; yellow = figure_plus a.yellow b.yellow; red = figure_plus a.red b.red }

-- both numbers have 64 bits
abbrev pub Fits64 : Figure → Type 0
Fits64 f = (f.octets < 2 ^ 64) × (f.packets < 2 ^ 64)

-- so of each colour
abbrev pub AllFit64 : ColourFigures → Type 0
AllFit64 c = Fits64 c.green × Fits64 c.yellow × Fits64 c.red

-- no packets
abbrev pub none : ColourFigures
none = record {
  green = record { octets = 0; packets = 0 };
  yellow = record { octets = 0; packets = 0 };
  red = record { octets = 0; packets = 0 };
}

-- octets and packets of a colour in all periods together
abbrev pub in_all : (ColourFigures → Figure) → List SpanFigures → Figure
in_all colour spans = record { octets = sum_by (λ s. (colour s.sums).octets) spans; packets = sum_by (λ s. (colour s.sums).packets) spans }

-- all periods together
abbrev pub all_of : List SpanFigures → ColourFigures
all_of spans = record { green = in_all (λ c. c.green) spans; yellow = in_all (λ c. c.yellow) spans; red = in_all (λ c. c.red) spans }

-- an account of this name, of which no figures are known
abbrev pub named : List ℕ → StatedAccount
named name = record { name = name; total = none; spans = [] }

-- an account's total is the sum of its periods
abbrev pub IsSummed : StatedAccount → Type 0
IsSummed a = a.total ≡ all_of a.spans

-- the indexes strictly ascend
abbrev pub Ascend : List SpanFigures → Type 0
Ascend spans = IsStrictlySortedBy nat_cmp (map (λ s. s.index) spans)

-- an account that a statement may have: its name is one, its periods ascend, and its total is their sum
pub record IsAccount (period : ℕ) (a : StatedAccount) : Type 0 where
  pub name : is_name a.name ≡ true
  pub total : AreFigures a.total
  pub spans : AllByRecursion (IsSpan period) a.spans
  pub ascend : Ascend a.spans
  pub summed : IsSummed a

-- no two accounts have one name
abbrev pub AreApart : List StatedAccount → Type 0
AreApart accounts = IsDistinct bytes_eq (map (λ a. a.name) accounts)

-- a statement: a period of 1 to 2^48 - 1 ms, counts of 64 bits, and 1 to 256 accounts
pub record IsStatement (s : Stated) : Type 0 where
  pub some_period : 0 < s.period
  pub period : s.period < time_end
  pub reports : s.reports < 2 ^ 64
  pub disputed : s.disputed < 2 ^ 64
  pub unassigned : s.unassigned < 2 ^ 64
  pub some : 0 < length s.accounts
  pub few : length s.accounts ≤ most_accounts
  pub accounts : AllByRecursion (IsAccount s.period) s.accounts
  pub apart : AreApart s.accounts
