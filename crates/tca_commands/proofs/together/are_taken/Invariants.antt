use Rattle.std.proofs.Common.{◌≡◌, [], take}
use Rattle.tca_commands.specs.inside.Together.{left_of}
use Rattle.tca_commands.proofs.together.are_taken.Given as goal

-- nothing is left of the lists so far
abbrev pub invariant-loop-n : goal.invariant-loop-n
invariant-loop-n l = left_of (take l.n l.lists) (take l.n l.taken) ≡ []
