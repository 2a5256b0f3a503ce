use Rattle.std.proofs.Common.{◌≡◌, ◌++◌, take}
use Rattle.std.specs.List.{flat_map}
use Rattle.tca_commands.proofs.replicated.are_log.Given as goal

-- the log begins with the lists so far
abbrev pub invariant-loop-reports : goal.invariant-loop-reports
invariant-loop-reports l = l.log ≡ flat_map (λ rs. rs) (take l.reports-index l.lists) ++ l.left
