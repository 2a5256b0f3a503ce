use Rattle.std.proofs.Common.{◌≡◌, [], map, take}
use Rattle.tcatool.specs.inside.Pairing.{usage_so_far}
use Rattle.tcatool.proofs.pairs.unused.Given as goal

abbrev pub invariant-loop-pair : goal.invariant-loop-pair
invariant-loop-pair l = l.all.items ≡ map (usage_so_far [] []) (take l.pair-index l.pairs)
