use Rattle.std.proofs.Common.{◌≡◌, ◌||◌, ◌++◌, ℕ, List, length}
use Rattle.std.specs.List.{flat_map}
use Rattle.tca_join.specs.Sets.{has}
use Rattle.tca_report.specs.report.Reports.{PacketReport, report_cmp}
use Rattle.tca_commands.specs.inside.Together.{left_of}
use Rattle.tca_commands.proofs.together.are_together.Given as goal

-- the lists have the reports so far, and what is left of them
pub record AreSoFar (lists : List (List PacketReport)) (taken : List ℕ) (all left : List PacketReport) : Type 0 where
  pub count : length taken ≡ length lists
  pub done : List PacketReport
  pub order : all ≡ done ++ left
  pub members : (q : PacketReport) → has report_cmp (flat_map (λ rs. rs) lists) q ≡ (has report_cmp done q || has report_cmp (left_of lists taken) q)

abbrev pub invariant-loop-report : goal.invariant-loop-report
invariant-loop-report l = AreSoFar l.lists l.taken.items l.log l.report-iterator
