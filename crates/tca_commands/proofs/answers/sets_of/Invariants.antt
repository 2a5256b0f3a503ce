use Rattle.std.proofs.Common.{◌≡◌}
use Rattle.tca_program.specs.Unions.{union_of}
use Rattle.tca_commands.proofs.answers.sets_of.Given as goal

-- the sets so far have the reports of the lists so far
abbrev pub invariant-loop-list : goal.invariant-loop-list
invariant-loop-list l =
    (goal.iterator-loop-list).can_next l.list-iterator ×
    (goal.iterator-loop-list).is_finite l.list-iterator ×
    (union_of l.sets.items ≡ union_of l.yielded)
