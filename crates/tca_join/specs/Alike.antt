-- Lists of the same items.
use Rattle.std.specs.Prelude.{◌≡◌, Bool, List}
use Rattle.std.specs.List.{list_any}

-- both have the same items, in whatever order and however often each: a test that one of them has an item for, the other has one for
pub record AreAlike {T : Type 0} (xs ys : List T) : Type 0 where
  pub each : (test : T → Bool) → list_any test xs ≡ list_any test ys
