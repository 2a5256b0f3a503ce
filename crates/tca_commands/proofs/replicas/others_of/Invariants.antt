use Rattle.std.proofs.Common.{◌≡◌, ◌+◌, length}
use Rattle.std.specs.List.{All, range_with_len}
use Rattle.tca_commands.specs.inside.Absorbs.{HasRightJournal, names_of}
use Rattle.tca_commands.proofs.replicas.others_of.Given as goal

-- those made so far, and their journals are right
abbrev pub invariant-loop-name : goal.invariant-loop-name
invariant-loop-name g l = record { many : length l.others.items + 2 ≡ l.name; names : names_of l.others.items ≡ range_with_len 2 (length l.others.items); right : All (HasRightJournal l.plan) l.others.items }

abbrev pub ghosts-read_and_close-L-Ledger : goal.ghosts-read_and_close-L-Ledger
ghosts-read_and_close-L-Ledger g a = record { name = a.blank.name; parts = a.blank.parts }

abbrev pub ghosts-read_and_close-L-Side : goal.ghosts-read_and_close-L-Side
ghosts-read_and_close-L-Side g a = record { plan = a.plan; called = a.name }
