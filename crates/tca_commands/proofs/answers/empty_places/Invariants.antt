use Rattle.std.proofs.Common.{◌≡◌, length}
use Rattle.tca_commands.proofs.answers.empty_places.Given as goal

-- a place for each input so far
abbrev pub invariant-loop-input : goal.invariant-loop-input
invariant-loop-input l = length l.places.items ≡ l.input-index
