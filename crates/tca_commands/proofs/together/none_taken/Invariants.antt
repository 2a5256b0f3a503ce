use Rattle.std.proofs.Common.{◌≡◌, ℕ, List, length}
use Rattle.std.specs.List.{flat_map}
use Rattle.tca_report.specs.report.Reports.{PacketReport}
use Rattle.tca_commands.specs.inside.Together.{left_of}
use Rattle.tca_commands.proofs.together.none_taken.Given as goal

-- there are so many numbers, and nothing was taken
pub record IsNone (lists : List (List PacketReport)) (taken : List ℕ) (n : ℕ) : Type 0 where
  pub count : length taken ≡ n
  pub whole : left_of lists taken ≡ flat_map (λ rs. rs) lists

abbrev pub invariant-loop-list : goal.invariant-loop-list
invariant-loop-list l = IsNone l.lists l.taken.items l.list-index
