use Rattle.std.proofs.Common.{◌≡◌, map, take}
use Rattle.tcatool.specs.inside.Sharing.{opened}
use Rattle.tcatool.proofs.sharing.begin.Given as goal

abbrev pub invariant-loop-n : goal.invariant-loop-n
invariant-loop-n l = l.accounts.items ≡ map opened (take l.n l.plan.accounts)
