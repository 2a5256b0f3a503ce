use Rattle.std.proofs.Common.{◌≡◌, ◌++◌, ◌+◌, ◌≤◌, ℕ, List, length}
use Rattle.tca_figures.specs.inside.Progress.{Follow, IsSound, Progress, unread}
use Rattle.tca_figures.specs.Reading.{parts}
use Rattle.tca_figures.proofs.statement.read_statement.Given as goal

abbrev pub invariant-loop-line : goal.invariant-loop-line
invariant-loop-line l = (lines : List (List ℕ)) × (parts l.octets ≡ lines ++ parts l.rest) × (length lines ≡ l.before)
    × (l.before + length l.rest ≤ length l.octets)
    × Follow unread lines l.reader × ((q : Progress) → Follow unread lines q → q ≡ l.reader) × IsSound l.reader

abbrev pub decreases-loop-line : goal.decreases-loop-line
decreases-loop-line l = length l.rest
