-- What `retain` keeps, where its calls change the closure.
use Rattle.std.proofs.Common.{◌≡◌, Bool, true, false, cond, List, [], ◌∷◌, length, filter, refl, ap, ◌∙◌, arith}
use Rattle.std.specs.List.{items_where_true}
use Rattle.std.specs.List.Retain.{IsFiltered, ReturnsInTurn}

module _ {X F : Type 0} (R : F → X → Bool → F → Type 0) (test : X → Bool) (I : F → Type 0) (step : (f : F) (x : X) (b : Bool) (g : F) → I f → R f x b g → (b ≡ test x) × I g) where
  first_kept : (x : X) (xs : List X) (bs : List Bool) (b : Bool) → b ≡ test x → items_where_true bs xs ≡ filter test xs → items_where_true (b ∷ bs) (x ∷ xs) ≡ filter test (x ∷ xs)
  first_kept x xs bs true e rest = ap (λ l. x ∷ l) rest ∙ ap (λ a. cond a (x ∷ filter test xs) (filter test xs)) e
  first_kept x xs bs false e rest = rest ∙ ap (λ a. cond a (x ∷ filter test xs) (filter test xs)) e

  told : (bs : List Bool) (xs : List X) (f g : F) → I f → length bs ≡ length xs → ReturnsInTurn R f bs xs g → items_where_true bs xs ≡ filter test xs
  told [] [] f g i e t = refl
  told [] (x ∷ xs) f g i e t = absurd (omega arith)
  told (b ∷ bs) [] f g i e t = absurd t
  told (b ∷ bs) (x ∷ xs) f g i e t =
      let one = step f x b t.0 i t.1 in
      first_kept x xs bs b one.0 (told bs xs t.0 g one.1 (omega arith) t.2)

  pub filter_kept : (f : F) (xs ys : List X) → I f → IsFiltered R f xs ys → ys ≡ filter test xs
  filter_kept f xs ys i k = k.4 ∙ told k.0 xs f k.1 i k.2 k.3
