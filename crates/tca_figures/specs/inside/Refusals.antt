-- How the reader tells the first fault, by the lines that may follow one another.
use Rattle.std.specs.Prelude.{◌≡◌, ◌≤◌, ◌+◌, ◌-◌, ◌++◌, ℕ, List, [], ◌∷◌, length, take, slice_get, Some}
use Rattle.tca_figures.specs.Reading.{line_number, parts, whole_lines}
use Rattle.tca_figures.specs.inside.Progress.{Follow, Follows, IsKept, IsSound, IsWrongSum, Progress, unread}
use Rattle.tca_figures.specs.declared.fault.StatementFault.{StatementFault}
use Rattle.tca_figures.specs.declared.fault.StatementFault.TheVariants as faults
use Rattle.tca_figures.specs.declared.reader.Refusal.{Refusal}
use Rattle.tca_figures.specs.declared.reader.Refusal.TheVariants as refusals
use Rattle.tca_figures.specs.declared.reader.Stage.TheVariants as stages

-- all lines are read, and nothing stands behind the last line feed
abbrev pub IsWhole : List ℕ → Progress → Type 0
IsWhole octets p = (p.stage ≡ stages.Ended) × (parts octets ≡ whole_lines octets ++ [] ∷ [])

-- the fault of the line behind so many, where so many periods of the account are read
abbrev pub fault_at : Refusal → ℕ → ℕ → StatementFault
fault_at refusals.Line before spans = faults.Line (line_number before)
fault_at refusals.Sum before spans = faults.Sum (line_number (before - (spans + 1)))
fault_at refusals.Memory before spans = faults.Memory

-- Lines in front follow one another, of each account whose lines they end the total is right, and the next line may not stand behind them, or
-- isn't there.
pub record IsLineRefused (octets : List ℕ) (line : ℕ) : Type 0 where
  pub before : ℕ
  pub number : line ≡ line_number before
  pub within : before ≤ length (whole_lines octets)
  pub progress : Progress
  pub follow : Follow unread (take before (whole_lines octets)) progress
  pub sound : IsSound progress
  pub next : (text : List ℕ) → slice_get (whole_lines octets) before ≡ Some text → (q : Progress) → Follows progress text q → ⊥
  pub early : before ≡ length (whole_lines octets) → IsWhole octets progress → ⊥

-- Lines in front follow one another, of each account whose lines they end the total is right, and the next line ends those of one whose total
-- isn't; that total's line is told.
pub record IsTotalRefused (octets : List ℕ) (line : ℕ) : Type 0 where
  pub before : ℕ
  pub progress : Progress
  pub number : line ≡ line_number (before - (length progress.account.spans + 1))
  pub follow : Follow unread (take before (whole_lines octets)) progress
  pub sound : IsSound progress
  pub next : List ℕ
  pub next_is : slice_get (whole_lines octets) before ≡ Some next
  pub wrong : IsWrongSum progress next

-- Where memory is wanted: lines in front follow one another, of each account whose lines they end the total is right, and so it is with the
-- next line, for which the memory is taken.
pub record IsMemoryRefused (octets : List ℕ) : Type 0 where
  pub before : ℕ
  pub progress : Progress
  pub follow : Follow unread (take before (whole_lines octets)) progress
  pub sound : IsSound progress
  pub next : List ℕ
  pub next_is : slice_get (whole_lines octets) before ≡ Some next
  pub kept : IsKept progress next

-- the fault of octets that are no statement, or where memory is wanted before there is one
abbrev pub IsRefused : List ℕ → StatementFault → Type 0
IsRefused octets (faults.Line line) = IsLineRefused octets line
IsRefused octets (faults.Sum line) = IsTotalRefused octets line
IsRefused octets (faults.Other line) = ⊥
IsRefused octets faults.Range = ⊥
IsRefused octets faults.Memory = IsMemoryRefused octets
