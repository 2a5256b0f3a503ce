use Rattle.std.proofs.Common.{◌≡◌, ◌≤◌, ℕ, map, take, drop}
use Rattle.std.specs.Prelude.{slice_get}
use Rattle.tca_report.specs.input.Inputs.{input_view}
use Rattle.tca_commands.specs.Replicated.{AreAnswered, AreSound}
use Rattle.tca_program.proofs.NotedLaws.{Completed}
use Rattle.tca_commands.proofs.ReadLaws.{HoldCompleted}
use Rattle.tca_commands.proofs.answers.readings_of.Given as goal

-- what the inputs up to here hold, and none of them has a fault; their answers were no refusals, and the others stand at their places
abbrev pub invariant-loop-n : goal.invariant-loop-n
invariant-loop-n l = record {
  noted : Completed (map input_view l.inputs) (map input_view (drop l.n l.inputs)) l.notes.items;
  hold : HoldCompleted (map input_view l.inputs) (map input_view (drop l.n l.inputs)) l.lists.items;
  before : AreSound (take l.n (map input_view l.inputs));
  answered : AreAnswered (map input_view l.inputs) l.fn.places.items l.n;
  behind : (k : ℕ) → l.n ≤ k → slice_get l.places.items k ≡ slice_get l.fn.places.items k;
}
