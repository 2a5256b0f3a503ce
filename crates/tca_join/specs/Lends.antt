-- What a map ends as, once a `&mut` to one of its values has ended.
use Rattle.std.specs.Prelude.{ℕ, List, Option}
use Rattle.std.specs.Borrow.{LendsIf, Fml, RattleType, MutBor}
use Rattle.std.specs.declared.alloc.Allocator as alloc
use Rattle.std.specs.declared.clone.Clone as clone
use Rattle.tca_join.specs.declared.join.Join as join
use Rattle.tca_join.specs.contracts.by_key.ByKey.{the_row}
use Rattle.tca_join.specs.Maps.{with_value}

module _ (V A : RattleType) (j : join.Ghosts V.Denot) (heap : alloc.Ghosts A.Denot) (c : clone.Ghosts A.Denot) where
  -- the key has the last value written through r and all else is as it was, and at `None` the map stays as it is
  abbrev pub lends_value : MutBor (List (ℕ × V.Denot)) → ℕ → Option (MutBor V.Denot) → Fml
  lends_value m key r = LendsIf (the_row V A j heap c) V m r (λ w. with_value key w m.now) m.now
