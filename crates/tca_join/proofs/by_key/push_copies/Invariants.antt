use Rattle.std.proofs.Common.{take, ◌++◌, ◌≡◌}
use Rattle.tca_join.proofs.by_key.push_copies.Given as goal

abbrev pub invariant-loop-entry : goal.invariant-loop-entry
invariant-loop-entry g l = l.out.items ≡ l.fn.out.items ++ take l.entry-index l.entries
