use Rattle.std.proofs.Common.{◌≡◌, ◌||◌, drop}
use Rattle.tca_join.specs.Maps.{clash_key, map_full}
use Rattle.tca_join.specs.Faults.{refusal}
use Rattle.tca_join.proofs.by_key.refusal_of.Given as goal

-- what is left decides, with whether some join was too large
abbrev pub invariant-loop-entry : goal.invariant-loop-entry
invariant-loop-entry g l =
    refusal (clash_key g.V.Join.clash l.first l.second) (map_full g.V.Join.full l.first l.second)
    ≡ refusal (clash_key g.V.Join.clash l.first (drop l.entry-index l.second)) (l.over || map_full g.V.Join.full l.first (drop l.entry-index l.second))
