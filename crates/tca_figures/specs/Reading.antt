-- The lines of octets, and the first fault of octets that are no statement.
use Rattle.std.specs.Prelude.{◌≡◌, ◌⊎◌, ◌≤◌, ◌+◌, ◌-◌, ◌==◌, ◌++◌, ℕ, List, [], ◌∷◌, length, take, slice_get, Some, min}
use Rattle.std.specs.List.{AllByRecursion, slice_split}
use Rattle.tca_figures.specs.Begun.{AreSummedIn, Begin, IsButForTotals, lines_before}
use Rattle.tca_figures.specs.Figures.{IsSummed, Stated, StatedAccount}
use Rattle.tca_figures.specs.Lines.{end_line, name_line, span_line, statement_octets}
use Rattle.tca_figures.specs.declared.fault.StatementFault.{StatementFault}
use Rattle.tca_figures.specs.declared.fault.StatementFault.TheVariants as faults
use Rattle.tca_figures.specs.declared.figures.SpanFigures.{SpanFigures}

-- the octets between line feeds, those before the first and behind the last one too
abbrev pub parts : List ℕ → List (List ℕ)
parts octets = slice_split (λ octet. octet == 10) octets

-- the lines that end with a line feed
abbrev pub whole_lines : List ℕ → List (List ℕ)
whole_lines octets = take (length (parts octets) - 1) (parts octets)

-- the number by which a line is told, counted from 1
abbrev pub line_number : ℕ → ℕ
line_number n = min (n + 1) 4294967295

-- Lines in front begin a statement in form but for its totals, of each account whose lines end before one of them the total is right, and with
-- the next line they begin none; or there is no next line, and the octets aren't those of such a statement.
pub record IsWrongLine (octets : List ℕ) (line : ℕ) : Type 0 where
  pub before : ℕ
  pub number : line ≡ line_number before
  pub within : before ≤ length (whole_lines octets)
  pub begin : Begin (take before (whole_lines octets))
  pub summed : AreSummedIn begin.stated before
  pub next : (text : List ℕ) → slice_get (whole_lines octets) before ≡ Some text → Begin (take before (whole_lines octets) ++ text ∷ []) → ⊥
  pub early : before ≡ length (whole_lines octets) → (s : Stated) → IsButForTotals s → octets ≡ statement_octets s → ⊥

-- With the next line lines in front begin a statement in form but for its totals, and those of an account end in front of that line. Of each
-- account before it the total is right, and its own isn't; the line of that total is told, which is its second.
pub record IsWrongTotal (octets : List ℕ) (line : ℕ) : Type 0 where
  pub before : ℕ
  pub next : List ℕ
  pub next_is : slice_get (whole_lines octets) before ≡ Some next
  pub begin : Begin (take before (whole_lines octets) ++ next ∷ [])
  pub accounts : ℕ
  pub account : StatedAccount
  pub account_is : slice_get begin.stated.accounts accounts ≡ Some account
  pub ends : before ≡ lines_before begin.stated (accounts + 1)
  pub summed : AllByRecursion IsSummed (take accounts begin.stated.accounts)
  pub wrong : IsSummed account → ⊥
  pub number : line ≡ line_number (lines_before begin.stated accounts + 1)

-- a line for which memory is taken: of an account's name, of a period, or the last one
abbrev pub IsKeptLine : List ℕ → Type 0
IsKeptLine line = ((name : List ℕ) × (line ≡ name_line name)) ⊎ (((span : SpanFigures) × (line ≡ span_line span)) ⊎ (line ≡ end_line))

-- Where memory is wanted: with the next line, for which it is taken, lines in front begin a statement in form but for its totals, and of each
-- account whose lines end before one of them the total is right.
pub record WantsMemory (octets : List ℕ) : Type 0 where
  pub before : ℕ
  pub next : List ℕ
  pub next_is : slice_get (whole_lines octets) before ≡ Some next
  pub begin : Begin (take before (whole_lines octets) ++ next ∷ [])
  pub summed : AreSummedIn begin.stated (before + 1)
  pub kept : IsKeptLine next

-- the first fault of octets that are no statement, or where memory is wanted before there is one
abbrev pub IsFirstFault : List ℕ → StatementFault → Type 0
IsFirstFault octets (faults.Line line) = IsWrongLine octets line
IsFirstFault octets (faults.Sum line) = IsWrongTotal octets line
IsFirstFault octets (faults.Other line) = ⊥
IsFirstFault octets faults.Range = ⊥
IsFirstFault octets faults.Memory = WantsMemory octets
