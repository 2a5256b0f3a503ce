-- The sum of two statements, and where a statement tells of another period or account than one before it.
use Rattle.std.specs.Prelude.{◌≡◌, ◌≢◌, ◌⊎◌, ◌<◌, ◌^◌, ◌+◌, ◌==◌, ◌++◌, ℕ, if◌then◌else◌, List, [], ◌∷◌, length, map, take, slice_get, Some}
use Rattle.std.specs.List.{AllByRecursion, flat_map}
use Rattle.std.specs.Ordering.{nat_cmp}
use Rattle.tca_figures.specs.Figures.{AllFit64, Ascend, Stated, StatedAccount, none, plus}
use Rattle.tca_figures.specs.Lines.{account_lines}
use Rattle.tca_figures.specs.Reading.{line_number}
use Rattle.tca_join.specs.Sets.{in_order}
use Rattle.tca_figures.specs.declared.fault.StatementFault.{StatementFault}
use Rattle.tca_figures.specs.declared.fault.StatementFault.TheVariants as faults
use Rattle.tca_figures.specs.declared.figures.ColourFigures.{ColourFigures}
use Rattle.tca_figures.specs.declared.figures.SpanFigures.{SpanFigures}

-- the figures of a period, or none
unfoldable pub sums_at : List SpanFigures → ℕ → ColourFigures
sums_at [] index = none
sums_at (s ∷ spans) index = if s.index == index then s.sums else sums_at spans index

-- the periods
abbrev pub indexes : List SpanFigures → List ℕ
indexes spans = map (λ s. s.index) spans

-- the periods that one of two has, ascending, each with the sums of what both have for it
abbrev pub added_spans : List SpanFigures → List SpanFigures → List SpanFigures
added_spans as_ bs = map (λ index. record { index = index; sums = plus (sums_at as_ index) (sums_at bs index) }) (in_order nat_cmp (indexes as_ ++ indexes bs))

-- the sum of an account's figures in two statements
abbrev pub added_account : StatedAccount → StatedAccount → StatedAccount
added_account a b = record { name = a.name; total = plus a.total b.total; spans = added_spans a.spans b.spans }

-- the sums of accounts, account by account
unfoldable pub added_accounts : List StatedAccount → List StatedAccount → List StatedAccount
added_accounts [] bs = bs
added_accounts (a ∷ as_) [] = a ∷ as_
added_accounts (a ∷ as_) (b ∷ bs) = added_account a b ∷ added_accounts as_ bs

-- the sum of two statements of one period and the same accounts
abbrev pub added : Stated → Stated → Stated
added a b = record {
  period = a.period;
  reports = a.reports + b.reports;
  disputed = a.disputed + b.disputed;
  unassigned = a.unassigned + b.unassigned;
  accounts = added_accounts a.accounts b.accounts;
}

-- the names of accounts
abbrev pub names : List StatedAccount → List (List ℕ)
names accounts = map (λ a. a.name) accounts

-- two statements are of one period, and have accounts of the same names in the same order
abbrev pub AreAlike : Stated → Stated → Type 0
AreAlike a b = (a.period ≡ b.period) × (names a.accounts ≡ names b.accounts)

-- the figures of each period have 64 bits
abbrev pub AllFit : List SpanFigures → Type 0
AllFit spans = AllByRecursion (λ s. AllFit64 s.sums) spans

-- so have those of an account
abbrev pub FitsAccount : StatedAccount → Type 0
FitsAccount a = AllFit64 a.total × AllFit a.spans

-- all numbers of a statement have 64 bits
pub record Fits (s : Stated) : Type 0 where
  pub reports : s.reports < 2 ^ 64
  pub disputed : s.disputed < 2 ^ 64
  pub unassigned : s.unassigned < 2 ^ 64
  pub accounts : AllByRecursion FitsAccount s.accounts

-- So many accounts have the same names, and the next ones haven't, or just one list has one; the line is that behind those of these accounts
-- in the second statement.
pub record IsOtherAccount (as_ bs : List StatedAccount) (line : ℕ) : Type 0 where
  pub before : ℕ
  pub same : names (take before as_) ≡ names (take before bs)
  pub differ : slice_get (names as_) before ≢ slice_get (names bs) before
  pub number : line ≡ line_number (5 + length (flat_map account_lines (take before bs)))

-- the second statement's line of another period, or else of another account
abbrev pub IsOther : Stated → Stated → ℕ → Type 0
IsOther a b line = ((a.period ≢ b.period) × (line ≡ 2)) ⊎ ((a.period ≡ b.period) × IsOtherAccount a.accounts b.accounts line)

-- Where memory is wanted for the sums of accounts: all sums of those in front of one have 64 bits, and so have those of its total.
pub record SumsWantMemory (sums : List StatedAccount) : Type 0 where
  pub before : ℕ
  pub fit : AllByRecursion FitsAccount (take before sums)
  pub account : StatedAccount
  pub account_is : slice_get sums before ≡ Some account
  pub total : AllFit64 account.total

-- Where memory is wanted for a sum: two statements are alike, the sums of their counts have 64 bits, and it is wanted for those of accounts.
pub record SumWantsMemory (a b : Stated) : Type 0 where
  pub alike : AreAlike a b
  pub reports : a.reports + b.reports < 2 ^ 64
  pub disputed : a.disputed + b.disputed < 2 ^ 64
  pub unassigned : a.unassigned + b.unassigned < 2 ^ 64
  pub accounts : SumsWantMemory (added_accounts a.accounts b.accounts)

-- why two statements have no sum, or where memory is wanted for one
abbrev pub IsSumFault : Stated → Stated → StatementFault → Type 0
IsSumFault a b (faults.Line line) = ⊥
IsSumFault a b (faults.Sum line) = ⊥
IsSumFault a b (faults.Other line) = IsOther a b line
IsSumFault a b faults.Range = AreAlike a b × ¬ Fits (added a b)
IsSumFault a b faults.Memory = SumWantsMemory a b

-- what is known of periods that are added up
abbrev pub AreInOrder : List SpanFigures → Type 0
AreInOrder spans = Ascend spans × AllFit spans

-- the first period of a sum, and the periods of each whose sum remains
pub record IsFirst (as_ bs : List SpanFigures) (span : SpanFigures) (left right : List SpanFigures) : Type 0 where
  pub sum : added_spans as_ bs ≡ span ∷ added_spans left right
  pub fits : AllFit64 span.sums
  pub left_order : AreInOrder left
  pub right_order : AreInOrder right
  pub fewer : length left + length right < length as_ + length bs
