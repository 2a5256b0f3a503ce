use Rattle.std.proofs.Common.{◌≡◌, ◌++◌, map, take, drop}
use Rattle.tca_commands.specs.inside.Absorbs.{closed_with}
use Rattle.tca_commands.proofs.replicas.tell_all.Given as goal

-- those so far have what they lacked of the first, and the others are as they were
abbrev pub invariant-loop-other : goal.invariant-loop-other
invariant-loop-other l = l.others ≡ map (closed_with l.fn.first) (take l.other-index l.fn.others) ++ drop l.other-index l.fn.others
