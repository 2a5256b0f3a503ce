-- Statements that are in form but for their totals, and the lines that begin them.
use Rattle.std.specs.Prelude.{◌≡◌, ◌<◌, ◌≤◌, ◌^◌, ◌+◌, ◌++◌, ℕ, true, List, length, take}
use Rattle.std.specs.List.{AllByRecursion, flat_map}
use Rattle.tca_report.specs.report.Reports.{time_end}
use Rattle.tca_accounts.specs.Plans.{is_name, most_accounts}
use Rattle.tca_figures.specs.Figures.{AreApart, AreFigures, Ascend, IsSpan, IsSummed, Stated, StatedAccount}
use Rattle.tca_figures.specs.Lines.{account_lines, statement_lines}

-- an account in form, but that its total need not be the sum of its periods
pub record IsAccountButForTotal (period : ℕ) (a : StatedAccount) : Type 0 where
  pub name : is_name a.name ≡ true
  pub total : AreFigures a.total
  pub spans : AllByRecursion (IsSpan period) a.spans
  pub ascend : Ascend a.spans

-- a statement in form, but that no total need be the sum of its account's periods
pub record IsButForTotals (s : Stated) : Type 0 where
  pub some_period : 0 < s.period
  pub period : s.period < time_end
  pub reports : s.reports < 2 ^ 64
  pub disputed : s.disputed < 2 ^ 64
  pub unassigned : s.unassigned < 2 ^ 64
  pub some : 0 < length s.accounts
  pub few : length s.accounts ≤ most_accounts
  pub accounts : AllByRecursion (IsAccountButForTotal s.period) s.accounts
  pub apart : AreApart s.accounts

-- these lines, with some behind them or none, are those of a statement that is in form but for its totals
pub record Begin (lines : List (List ℕ)) : Type 0 where
  pub stated : Stated
  pub in_form : IsButForTotals stated
  pub behind : List (List ℕ)
  pub lines_are : statement_lines stated ≡ lines ++ behind

-- how many lines a statement has in front of those of the account behind so many
abbrev pub lines_before : Stated → ℕ → ℕ
lines_before s accounts = 5 + length (flat_map account_lines (take accounts s.accounts))

-- of each account behind whose lines another one of the first so many lines stands, the total is the sum of its periods
abbrev pub AreSummedIn : Stated → ℕ → Type 0
AreSummedIn s lines = (accounts : ℕ) → lines_before s accounts < lines → AllByRecursion IsSummed (take accounts s.accounts)
