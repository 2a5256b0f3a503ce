use Rattle.std.proofs.Common.{take}
use Rattle.std.specs.List.{AllByRecursion}
use Rattle.tca_join.proofs.by_key.ByKeyJoin.known.Given as goal

abbrev pub invariant-loop-entry : goal.invariant-loop-entry
invariant-loop-entry g l = AllByRecursion (λ e. g.V.Join.proper e.1) (take l.entry-index l.entry-items)
