use Rattle.std.proofs.Common.{◌≡◌, length}
use Rattle.tcatool.proofs.shell.read_statements.Given as goal

abbrev pub invariant-loop-n : goal.invariant-loop-n
invariant-loop-n g l = length l.texts.items ≡ l.n
