use Rattle.std.proofs.Common.{◌≡◌, ◌&&◌, ◌||◌, ℕ, Bool, List, length}
use Rattle.std.specs.Ordering.{eq_by_cmp}
use Rattle.tca_join.specs.Sets.{has}
use Rattle.tca_report.specs.report.Reports.{PacketReport, report_cmp}
use Rattle.tca_commands.specs.inside.Together.{left_of}
use Rattle.tca_commands.proofs.together.take_next.Given as goal

-- what was left is what is left now, and the report where it was taken
pub record AreTaken (lists : List (List PacketReport)) (before after : List ℕ) (is_next : Bool) (r : PacketReport) : Type 0 where
  pub count : length after ≡ length lists
  pub members : (q : PacketReport) → has report_cmp (left_of lists before) q ≡ ((is_next && eq_by_cmp report_cmp q r) || has report_cmp (left_of lists after) q)

abbrev pub invariant-loop-n : goal.invariant-loop-n
invariant-loop-n l = AreTaken l.lists l.fn.taken.items l.taken.items l.is_next l.report
