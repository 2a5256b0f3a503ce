use Rattle.std.proofs.Common.{◌≡◌, ◌++◌}
use Rattle.std.specs.List.{flat_map}
use Rattle.tca_commands.proofs.answers.append_all.Given as goal

-- the first list, and the reports of the others so far
abbrev pub invariant-loop-reports : goal.invariant-loop-reports
invariant-loop-reports l =
    (goal.iterator-loop-reports).can_next l.reports-iterator ×
    (goal.iterator-loop-reports).is_finite l.reports-iterator ×
    (l.all.items ≡ l.fn.first.items ++ flat_map (λ rs. rs) l.yielded)
