use Rattle.std.proofs.Common.{◌≡◌, ◌≤◌, ◌-◌, ◌^◌}
use Rattle.std.specs.Prelude.{min}
use Rattle.tca_replay.specs.Lanes.{lane_resumed}
use Rattle.tca_replay.specs.Books.{steps_of, changed_rows}
use Rattle.tca_replay.proofs.Loops.{mapped_to, sum_to}
use Rattle.tca_replay.proofs.book.resume_all.Given as goal

abbrev pub invariant-loop-n : goal.invariant-loop-n
invariant-loop-n g l = record {
  lanes : l.lanes.items ≡ mapped_to lane_resumed l.n l.fn.lanes.items;
  steps : l.steps ≤ sum_to (λ x. steps_of x x.changed) l.n l.fn.lanes.items;
  all : min (sum_to (λ x. changed_rows x x.changed) l.n l.fn.lanes.items) (2 ^ 64 - 1) ≤ l.steps;
}
