-- What calls return: what a definition gives, and what comes next.
use Rattle.std.specs.Prelude.{◌≡◌, ◌≢◌, Result, Ok, Err}

-- What a call returned, seen by view, is what the definition gives, unless memory ran out.
abbrev pub Gives : {X Y F : Type 0} → F → (X → Y) → Result X F → Result Y F → Type 0
Gives memory view (Ok x) given = given ≡ Ok (view x)
Gives memory view (Err e) given = e ≢ memory → given ≡ Err e

-- what comes next, unless there is a fault already
infixl 10 ◌>>=◌
abbrev pub ◌>>=◌ : {A B F : Type 0} → Result A F → (A → Result B F) → Result B F
Ok a >>= next = next a
Err fault >>= next = Err fault
