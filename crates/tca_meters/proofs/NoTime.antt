-- Where no time passes, no token comes.
use Rattle.std.proofs.Common.{◌≡◌, ℕ, sym, refl}
use Rattle.tca_buckets.specs.Tokens.{due}
use Rattle.tca_buckets.specs.Buckets.{repeated, spill}
use Rattle.tca_buckets.proofs.Due.{due_none}
use Rattle.tca_meters.specs.declared.levels.Levels.{Levels}
use Rattle.tca_meters.specs.Levels.{filled_apart}
use Rattle.tca_meters.specs.SrTcm.{levels}

-- so two buckets of two rates keep their levels
pub none_apart : (committed excess from to : ℕ) (s : Levels) → from ≡ to → s ≡ filled_apart (due committed from to) (due excess from to) s
unfolding repeated
none_apart committed excess from to s same = rw (sym same, due_none committed from, due_none excess from) refl

-- and so do two of which the second gets what the first has no room for
pub none_spilling : (rate from to : ℕ) (s : Levels) → from ≡ to → s ≡ levels (repeated (due rate from to) spill (s.committed, s.excess))
unfolding repeated
none_spilling rate from to s same = rw (sym same, due_none rate from) refl
